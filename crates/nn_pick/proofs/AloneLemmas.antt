-- One directory by itself, whose `current` has a whole image and no record: it opens to that image's namespace.
use Rattle.std.proofs.Common.{◌≡◌, inr, ℕ, true, None, arith, subst}
use Rattle.std.specs.Prelude.{◌==◌}
use Rattle.std.proofs.lemmas.Bool.Decides.{Decides-eqb}
use Rattle.nn_host.specs.Disk.{Reads}
use Rattle.nn_marks.specs.declared.version.Version.{Version}
use Rattle.nn_tree.specs.Namespace.{Namespace}
use Rattle.nn_pick.specs.declared.intent.Intent.TheVariants.{Start}
use Rattle.nn_pick.specs.Dirs.{IsAmongChosen, formatted_in}
use Rattle.nn_pick.specs.Opening.{Opens, OpensAlone, alone}
use Rattle.nn_pick.specs.Laws.{HoldsImage, HoldOneImage, AnImageOpensAlone}
use Rattle.nn_pick.proofs.HoldsLemmas.{holds_formatted}
use Rattle.nn_pick.proofs.OneImageLemmas.{one_image_is_sound}

module _ (c : Reads) (version : Version) (id : ℕ) (ns : Namespace) (h : HoldsImage c version id ns) where
  holds : HoldOneImage (alone c) version id ns
  holds = record { each = λ i below. inr h; some = (0, omega arith, holds_formatted h) }

  opens : Opens (alone c) Start (record { chosen = formatted_in (alone c); last = id; book = record { ns = ns; saved = None } })
  opens = (one_image_is_sound (alone c) version id ns holds).opens

  -- the only number below the count is 0

  is_first : (i : ℕ) → IsAmongChosen (alone c) i → (i == 0) ≡ true
  is_first i is = let below = is.3.ahead.below in (Decides-eqb i 0).1 (omega (arith, below))

  first_is : (i : ℕ) → (i == 0) ≡ true → IsAmongChosen (alone c) i
  first_is i e =
      let zero = (Decides-eqb i 0).0 e in
      let below = opens.first.lowest.below in
      let same : opens.first.dir ≡ i = omega (arith, zero, below) in
      subst (IsAmongChosen (alone c)) same opens.first.lowest.holds

  opens_so : OpensAlone c id (record { ns = ns; saved = None })
  opens_so = record {
    unrefused = opens.unrefused;
    chosen = λ i. (is_first i, first_is i);
    version = opens.version;
    end = opens.end;
    first = opens.first;
    last = opens.last;
    namespace = opens.namespace;
    saved = opens.saved;
  }

pub opens_alone : AnImageOpensAlone
opens_alone c version id ns h = opens_so c version id ns h
