use Rattle.std.proofs.Common.{ℕ, List, Option, Some, sym, subst, refl, arith}
use Rattle.std.specs.Prelude.{option_map}
use Rattle.nn_host.specs.Listing.{IsRead}
use Rattle.nn_memhost.specs.Content.{Content}
use Rattle.nn_memhost.proofs.EditLemmas.{found_file, absent_file}
use Rattle.nn_memhost.proofs.kept.files.read_at.Goals as goal

pub returns-then-k-files-clause-value : goal.returns-then-k-files-clause-value
returns-then-k-files-clause-value c =
    let none = absent_file c.args.sub c.args.name.now c.args.files.now c.place_of-k.result c.place_of-k.ensures (omega (arith, c.if-k-files.true)) in
    subst (λ (w : Option Content). IsRead (option_map (λ (x : Content). x.bytes) w) c.args.at 0 c.args.out.now c.args.out.now) (sym none)
    (record { count = omega arith; front = refl; rest = refl })

pub returns-clause-value : goal.returns-clause-value
returns-clause-value c =
    let there = found_file c.args.sub c.args.name.now c.args.files.now c.place_of-k.result c.place_of-k.ensures c.index-files-k.result (omega (arith, c.if-k-files.false)) c.index-files-k.is in
    subst (λ (w : Option Content). IsRead (option_map (λ (x : Content). x.bytes) w) c.args.at c.copy_from.result c.args.out.now c.copy_from.new.out) (sym there)
    (subst (λ (bytes : List ℕ). IsRead (Some bytes) c.args.at c.copy_from.result c.args.out.now c.copy_from.new.out) c.deref.ensures.value c.copy_from.ensures.value)
