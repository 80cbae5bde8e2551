-- The folders that serve, before and after a change.
use Rattle.std.proofs.Common.{◌≡◌, Bool, true, false, Option, Some, None, refl, sym, ◌∙◌, ap, subst}
use Rattle.std.specs.Prelude.{Ok}
use Rattle.nn_base.specs.declared.sub.Sub.{Sub}
use Rattle.nn_base.specs.declared.sub.Sub.TheVariants.{Current, Previous, PreviousCheckpoint}
use Rattle.nn_base.specs.declared.file_name.FileName.{FileName}
use Rattle.nn_host.specs.Disk.{Held}
use Rattle.nn_state.specs.declared.state.StorageState.{StorageState}
use Rattle.nn_state.specs.Table.{seven_of}
use Rattle.nn_state.specs.Seat.{Seat, seat, seat_of, serving, saved, if_there}
use Rattle.nn_state.specs.Typed.{IsIn}
use Rattle.nn_state.specs.Recovery.{SameFolder, SameSeat, IsFrom, HasNoTmp, IsRecovered, to_keep}

module _ {A : Type 0} (old new : Held A) where
  -- ---- at a moment

  pub same_if : (there : Bool) (a : Sub) → ((n : FileName) → new.file a n ≡ old.file a n) → SameFolder (if_there there a) (if_there there a) old new
  same_if true a same = same
  same_if false a same = tt

  pub same_seat : {oc op nc np : Option Sub} → seat_of (seven_of old) ≡ seat oc op → seat_of (seven_of new) ≡ seat nc np → new.root ≡ true → (state : StorageState) × IsIn state new
      → SameFolder oc nc old new → SameFolder op np old new → SameSeat old new
  same_seat {oc} {op} {nc} {np} before after root state current previous = record {
    root = root;
    state = state;
    current = subst (λ (x : Seat). SameFolder x.current (serving new) old new) (sym before) (subst (λ (y : Seat). SameFolder oc y.current old new) (sym after) current);
    previous = subst (λ (x : Seat). SameFolder x.previous (saved new) old new) (sym before) (subst (λ (y : Seat). SameFolder op y.previous old new) (sym after) previous);
  }

  -- ---- afterwards

  -- the folder that takes this name, if one does
  abbrev pub Takes : Option Sub → Sub → Type 0
  Takes from to = (sub : Sub) → from ≡ Some sub → IsFrom sub to old new

  pub takes : (a to : Sub) → IsFrom a to old new → Takes (Some a) to
  takes a to it sub is = subst (λ (s : Sub). IsFrom s to old new) (let e : a ≡ sub = cc in e) it

  pub takes_none : (to : Sub) → Takes None to
  takes_none to sub is = cc

  pub takes_if : (there : Bool) (a to : Sub) → IsFrom a to old new → Takes (if_there there a) to
  takes_if true a to it = takes a to it
  takes_if false a to it = takes_none to

  pub unsaved_if : (there : Bool) → new.has Previous ≡ there → if_there there Previous ≡ None → new.has Previous ≡ false
  unsaved_if true is none = cc
  unsaved_if false is none = is

  pub recovered : {oc op : Option Sub} {kept : Sub} (state : StorageState) → IsIn state old → to_keep (Ok state) ≡ kept → seat_of (seven_of old) ≡ seat oc op → new.root ≡ old.root → Takes oc Current → (oc ≡ None → IsFrom Current Current old new) → Takes op Previous → (op ≡ None → new.has Previous ≡ false)
      → IsFrom kept PreviousCheckpoint old new → HasNoTmp new → IsRecovered old new
  recovered {oc} {op} {kept} state fits keeps before root current unserved previous unsaved checkpoint no_tmp = record {
    root = root;
    current = subst (λ (x : Seat). Takes x.current Current) (sym before) current;
    unserved = subst (λ (x : Seat). x.current ≡ None → IsFrom Current Current old new) (sym before) unserved;
    previous = subst (λ (x : Seat). Takes x.previous Previous) (sym before) previous;
    unsaved = subst (λ (x : Seat). x.previous ≡ None → new.has Previous ≡ false) (sym before) unsaved;
    checkpoint = subst (λ (s : Sub). IsFrom s PreviousCheckpoint old new) (sym (ap to_keep fits ∙ keeps)) checkpoint;
    no_tmp = no_tmp;
  }

pub same_folder : {A : Type 0} (d : Held A) (o : Option Sub) → SameFolder o o d d
same_folder d None = tt
same_folder d (Some a) = λ n. refl

-- nothing has changed
pub same_seat_refl : {A : Type 0} (d : Held A) (state : StorageState) → IsIn state d → d.root ≡ true → SameSeat d d
same_seat_refl d state fits root = record { root = root; state = (state, fits); current = same_folder d (serving d); previous = same_folder d (saved d) }
