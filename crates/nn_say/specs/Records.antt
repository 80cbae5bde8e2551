-- By which calls a record of calls grew.
use Rattle.std.specs.Prelude.{◌≡◌, List, ◌++◌, map}
use Rattle.nn_host.specs.Moments.{Entry, Event}

abbrev pub calls_in : List Entry → List Event
calls_in entries = map (λ (e : Entry). e.event) entries

-- by these, and by no other
pub record Records (calls : List Event) (before after : List Entry) : Type 0 where
  pub more : List Entry
  pub trace : after ≡ before ++ more
  pub are : calls_in more ≡ calls
