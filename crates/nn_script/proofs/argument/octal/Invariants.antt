use Rattle.std.proofs.Common.{◌≡◌, take}
use Rattle.std.specs.Str.Parse.{digits_value, AllDigits}
use Rattle.nn_script.proofs.argument.octal.Given as goal

abbrev pub invariant-loop-digit : goal.invariant-loop-digit
invariant-loop-digit l = record {
  digits : AllDigits 8 (take l.digit-index l.digits);
  value : l.number ≡ digits_value 8 (take l.digit-index l.digits);
}
