-- What a stop leaves of a disk in whose seat the same files stand has the seat of something that one could leave before.
use Rattle.std.proofs.Common.{true, false, ◌≡◌, ◌≢◌, ◌⊎◌, inl, inr, ⊎_elim, ℕ, List, ◌++◌, Bool, Option, Some, None, Result, Ok, Err, refl, sym, ◌∙◌, ap, subst, arith}
use Rattle.std.specs.Prelude.{is_some, if◌then◌else◌}
use Rattle.std.proofs.lemmas.Option.{none-some, same_Some}
use Rattle.nn_base.specs.declared.sub.Sub.{Sub}
use Rattle.nn_base.specs.declared.sub.Sub.TheVariants.{Current, Previous, PreviousTmp, RemovedTmp, LastCheckpointTmp}
use Rattle.nn_base.specs.declared.file_name.FileName.{FileName}
use Rattle.nn_base.specs.FileText.{IsInRange}
use Rattle.nn_base.specs.Names.{sub_eq}
use Rattle.nn_base.proofs.NamesLemmas.{sub_tells}
use Rattle.nn_host.specs.Disk.{Disk, Reads, File, Leaves, LeavesFile}
use Rattle.nn_host.proofs.CleanLemmas.{whole, reading}
use Rattle.nn_state.specs.declared.state.Seven.{Seven}
use Rattle.nn_state.specs.declared.state.StorageState.{StorageState}
use Rattle.nn_state.specs.declared.state.StorageState.TheVariants.{NonExistent, NotFormatted, Normal, CompleteUpgrade, RecoverUpgrade, CompleteFinalize, CompleteRollback, RecoverRollback, CompleteCheckpoint, RecoverCheckpoint}
use Rattle.nn_state.specs.declared.state.Why.{Why}
use Rattle.nn_state.specs.Table.{seven_of, table_of, rows, first_row}
use Rattle.nn_state.specs.Seat.{seat_of, seat_by, if_there, serving, saved}
use Rattle.nn_state.specs.Recovery.{SameFolder, SameSeat}
use Rattle.nn_state.specs.Typed.{IsIn}
use Rattle.nn_chain.specs.Folder.{Folder}
use Rattle.nn_chain.specs.Records.{first_in}
use Rattle.nn_chain.specs.Fair.{IsFair, IsFairFile}
use Rattle.nn_chain.proofs.FairLemmas.{whole_is_fair}
use Rattle.nn_state.proofs.LeftLemmas.{seven_left}
use Rattle.nn_pick.specs.Dirs.{ServesCurrent, ServesPrevious}
use Rattle.nn_kept.specs.Kept.{HasState}
use Rattle.nn_kept.specs.Onward.{HasSameSeat}
use Rattle.nn_kept.proofs.KeptOpenLemmas.{there}

-- ---- the table

flags : Bool → Bool → Bool → Bool → Bool → Bool → Bool → Seven
flags root a b c d current previous = record { root = root; current = current; previous = previous; previous_tmp = a; removed_tmp = b; finalized_tmp = c; last_checkpoint_tmp = d }

rootless : (root a b c d current previous : Bool) → first_row (rows (flags root a b c d current previous)) ≡ Ok NonExistent → root ≡ false
unfolding flags
rootless false a b c d current previous e = refl
rootless true a b c d current previous e = grind (arith, e)

-- where there is a root there is a state
exists : (s : Seven) → s.root ≡ true → (state : StorageState) → table_of s ≡ Ok state → state ≢ NonExistent
unfolding table_of flags
exists s root state is none =
    let e = rootless s.root s.previous_tmp s.removed_tmp s.finalized_tmp s.last_checkpoint_tmp s.current s.previous (subst (λ (x : StorageState). table_of s ≡ Ok x) none is) in
    let apart = sym root ∙ e in
    cc

by_current : (there : Bool) (a b : Sub) → Some Current ≡ Some a → if_there there Previous ≡ Some b → a ≢ b
by_current true a b p q = λ e. (let x = same_Some Current a p ∙ e ∙ sym (same_Some Previous b q) in cc)
by_current false a b p q = absurd (none-some b q)

by_last : (there : Bool) (a b : Sub) → Some LastCheckpointTmp ≡ Some a → if_there there Previous ≡ Some b → a ≢ b
by_last true a b p q = λ e. (let x = same_Some LastCheckpointTmp a p ∙ e ∙ sym (same_Some Previous b q) in cc)
by_last false a b p q = absurd (none-some b q)

-- no folder serves as both
apart_by : (r : Result StorageState Why) (s : Seven) (a b : Sub) → (seat_by r s).current ≡ Some a → (seat_by r s).previous ≡ Some b → a ≢ b
apart_by (Err why) s a b p q = absurd (none-some a p)
apart_by (Ok NonExistent) s a b p q = absurd (none-some a p)
apart_by (Ok NotFormatted) s a b p q = absurd (none-some a p)
apart_by (Ok Normal) s a b p q = by_current s.previous a b p q
apart_by (Ok CompleteUpgrade) s a b p q = λ e. (let x = same_Some Current a p ∙ e ∙ sym (same_Some PreviousTmp b q) in cc)
apart_by (Ok RecoverUpgrade) s a b p q = absurd (none-some b q)
apart_by (Ok CompleteFinalize) s a b p q = absurd (none-some b q)
apart_by (Ok CompleteRollback) s a b p q = absurd (none-some b q)
apart_by (Ok RecoverRollback) s a b p q = λ e. (let x = same_Some RemovedTmp a p ∙ e ∙ sym (same_Some Previous b q) in cc)
apart_by (Ok CompleteCheckpoint) s a b p q = by_current s.previous a b p q
apart_by (Ok RecoverCheckpoint) s a b p q = by_last s.previous a b p q

serve_apart : (s : Seven) (a b : Sub) → (seat_of s).current ≡ Some a → (seat_of s).previous ≡ Some b → a ≢ b
serve_apart s a b p q = apart_by (table_of s) s a b p q

-- ---- contents with the files of one folder in another

-- the files that `c` has in the folder b stand in the folder a, and the rest is as it is
pub in_place : Option Sub → Option Sub → Reads → (Sub → FileName → Option (List ℕ)) → Sub → FileName → Option (List ℕ)
in_place (Some a) (Some b) c rest s n = if sub_eq s a then c.file b n else rest s n
in_place (Some a) None c rest s n = rest s n
in_place None b c rest s n = rest s n

module _ (c : Reads) (rest : Sub → FileName → Option (List ℕ)) where
  pub in_the_place : (oc nc : Option Sub) (a b : Sub) → oc ≡ Some a → nc ≡ Some b → (n : FileName) → in_place oc nc c rest a n ≡ c.file b n
  unfolding in_place
  in_the_place None nc a b p q n = absurd (none-some a p)
  in_the_place (Some x) None a b p q n = absurd (none-some b q)
  in_the_place (Some x) (Some y) a b p q n = elim (sub_tells a x) [
    | inl is ↦ ap (λ (t : Bool). if t then c.file y n else rest a n) is.0 ∙ ap (λ (s : Sub). c.file s n) (same_Some y b q)
    | inr other ↦ absurd (other.1 (sym (same_Some x a p)))
  ]

  pub beside_it : (oc nc : Option Sub) (s : Sub) → ((a : Sub) → oc ≡ Some a → a ≢ s) → (n : FileName) → in_place oc nc c rest s n ≡ rest s n
  unfolding in_place
  beside_it None nc s apart n = refl
  beside_it (Some x) None s apart n = refl
  beside_it (Some x) (Some y) s apart n = elim (sub_tells s x) [
    | inl is ↦ absurd (apart x refl (sym is.1))
    | inr other ↦ ap (λ (t : Bool). if t then c.file y n else rest s n) other.0
  ]

module _ (old d : Disk) (c : Reads) where
  -- what holds of each file that is left and of the rest holds of these contents
  pub placed : (Q : FileName → Option File → Option (List ℕ) → Type 0) (rest : Sub → FileName → Option (List ℕ)) (oc nc : Option Sub) → SameFolder oc nc old d → ((s : Sub) (n : FileName) → Q n (d.file s n) (c.file s n))
      → ((s : Sub) (n : FileName) → Q n (old.file s n) (rest s n)) → (s : Sub) (n : FileName) → Q n (old.file s n) (in_place oc nc c rest s n)
  unfolding in_place
  placed Q rest None nc same left others s n = others s n
  placed Q rest (Some a) None same left others s n = absurd same
  placed Q rest (Some a) (Some b) same left others s n = elim (sub_tells s a) [
    | inl is ↦ subst (λ (t : Bool). Q n (old.file s n) (if t then c.file b n else rest s n)) (sym is.0)
        (subst (λ (q : Sub). Q n (old.file q n) (c.file b n)) (sym is.1) (subst (λ (f : Option File). Q n f (c.file b n)) (same n) (left b n)))
    | inr other ↦ subst (λ (t : Bool). Q n (old.file s n) (if t then c.file b n else rest s n)) (sym other.0) (others s n)
  ]

  -- where the second folder is gone, nothing is placed
  nothing : (rest : Sub → FileName → Option (List ℕ)) (op : Option Sub) (s : Sub) (n : FileName) → in_place op None c rest s n ≡ rest s n
  unfolding in_place
  nothing rest None s n = refl
  nothing rest (Some a) s n = refl

  placed_or_gone : (Q : FileName → Option File → Option (List ℕ) → Type 0) (rest : Sub → FileName → Option (List ℕ)) (op np : Option Sub) → SameFolder op np old d ⊎ (np ≡ None) → ((s : Sub) (n : FileName) → Q n (d.file s n) (c.file s n))
      → ((s : Sub) (n : FileName) → Q n (old.file s n) (rest s n)) → (s : Sub) (n : FileName) → Q n (old.file s n) (in_place op np c rest s n)
  placed_or_gone Q rest op np (inl same) left others s n = placed Q rest op np same left others s n
  placed_or_gone Q rest op np (inr none) left others s n = subst (Q n (old.file s n)) (sym (ap (λ (o : Option Sub). in_place op o c rest s n) none ∙ nothing rest op s n)) (others s n)

  -- the other folder is there too
  other_side : (oc nc : Option Sub) → SameFolder oc nc old d → (a : Sub) → oc ≡ Some a → (b : Sub) × (nc ≡ Some b)
  other_side None nc same a e = absurd (none-some a e)
  other_side (Some x) None same a e = absurd same
  other_side (Some x) (Some y) same a e = (y, refl)

  side_before : (oc nc : Option Sub) → SameFolder oc nc old d → (b : Sub) → nc ≡ Some b → (a : Sub) × (oc ≡ Some a)
  side_before oc None same b e = absurd (none-some b e)
  side_before None (Some y) same b e = absurd same
  side_before (Some x) (Some y) same b e = (x, refl)

  pub neither : (oc nc : Option Sub) → SameFolder oc nc old d → oc ≡ None → nc ≡ None
  neither None None same e = refl
  neither None (Some y) same e = absurd same
  neither (Some x) nc same e = absurd (none-some x (sym e))

  both_there : (oc nc : Option Sub) → SameFolder oc nc old d → is_some nc ≡ is_some oc
  both_there None None same = refl
  both_there None (Some y) same = absurd same
  both_there (Some x) None same = absurd same
  both_there (Some x) (Some y) same = refl

-- ---- what reads whole

pub leaves_whole : (f : Option File) → LeavesFile f (whole f)
leaves_whole None = tt
leaves_whole (Some f) = record { tail = f.pending; split = refl; short = omega arith }

pub reads_whole : (d : Disk) → Leaves d (reading d)
reads_whole d = record { root = refl; subs = λ s. refl; files = λ s n. leaves_whole (d.file s n) }

pub reads_fair : (d : Disk) → IsFair d (reading d)
reads_fair d = whole_is_fair d (reading d) (λ sub name file bytes there reads. sym (same_Some (file.synced ++ file.pending) bytes (ap whole (sym there) ∙ reads)))

-- ---- what is left has the seat of something that could be left before

abbrev pub FairAt : FileName → Option File → Option (List ℕ) → Type 0
FairAt n f g = (first : ℕ) (file : File) (bytes : List ℕ) → IsInRange n → first_in n ≡ Some first → f ≡ Some file → g ≡ Some bytes → IsFairFile first file bytes

-- the folder that serves as current is the same; the one that serves as previous is, or is gone
pub record LeftCut (old d : Disk) (c : Reads) : Type 0 where
  pub before : Reads
  pub left : Leaves old before
  pub fair : IsFair d c → IsFair old before
  pub unserved : serving before ≡ None → serving c ≡ None
  pub current : (folder : Folder) → ServesCurrent before folder → ServesCurrent c folder
  pub previous : (folder : Folder) → ServesPrevious c folder → ServesPrevious before folder
  pub saved_before : saved before ≡ saved old
  pub saved_here : saved c ≡ saved d

module _ (old d : Disk) (c : Reads) (leaves : Leaves d c) (same : SameFolder (serving old) (serving d) old d) (either : SameFolder (saved old) (saved d) old d ⊎ (saved d ≡ None)) where
  rest : Sub → FileName → Option (List ℕ)
  rest s n = whole (old.file s n)

  inner : Sub → FileName → Option (List ℕ)
  inner = in_place (saved old) (saved d) c rest

  before : Reads
  before = record { root = old.root; has = old.has; file = in_place (serving old) (serving d) c inner }

  each_file : (Q : FileName → Option File → Option (List ℕ) → Type 0) → ((s : Sub) (n : FileName) → Q n (d.file s n) (c.file s n)) → ((s : Sub) (n : FileName) → Q n (old.file s n) (rest s n)) → (s : Sub) (n : FileName) → Q n (old.file s n) (before.file s n)
  unfolding before inner
  each_file Q left others = placed old d c Q inner (serving old) (serving d) same left (placed_or_gone old d c Q rest (saved old) (saved d) either left others)

  left_before : Leaves old before
  unfolding before rest
  left_before = record { root = refl; subs = λ s. refl; files = each_file (λ n f g. LeavesFile f g) leaves.files (λ s n. leaves_whole (old.file s n)) }

  fair_before : IsFair d c → IsFair old before
  unfolding rest
  fair_before fair sub n first file bytes ranged begins there reads =
      each_file FairAt (λ s m f g b r e x y. fair s m f g b r e x y) (λ s m f g b r e x y. reads_fair old s m f g b r e x y) sub n first file bytes ranged begins there reads

  was_serving : serving before ≡ serving old
  was_serving = ap (λ (s : Seven). (seat_of s).current) (seven_left old before left_before)

  was_saved : saved before ≡ saved old
  was_saved = ap (λ (s : Seven). (seat_of s).previous) (seven_left old before left_before)

  is_serving : serving c ≡ serving d
  is_serving = ap (λ (s : Seven). (seat_of s).current) (seven_left d c leaves)

  is_saved : saved c ≡ saved d
  is_saved = ap (λ (s : Seven). (seat_of s).previous) (seven_left d c leaves)

  current : (folder : Folder) → ServesCurrent before folder → ServesCurrent c folder
  unfolding before
  current folder is =
      let its = sym was_serving ∙ is.serves in
      let other = other_side old d c (serving old) (serving d) same is.sub its in
      record { sub = other.0; serves = is_serving ∙ other.1; is = is.is ∙ (λ k n. in_the_place c inner (serving old) (serving d) is.sub other.0 its other.1 n k) }

  previous_from : (folder : Folder) → ServesPrevious c folder → SameFolder (saved old) (saved d) old d → ServesPrevious before folder
  unfolding before inner
  previous_from folder is held =
      let its = sym is_saved ∙ is.serves in
      let was = side_before old d c (saved old) (saved d) held is.sub its in
      let apart : (a : Sub) → serving old ≡ Some a → a ≢ was.0 = λ a e. serve_apart (seven_of old) a was.0 e was.1 in
      record {
        sub = was.0;
        serves = was_saved ∙ was.1;
        is = is.is ∙ sym (λ k n. (beside_it c inner (serving old) (serving d) was.0 apart n ∙ in_the_place c rest (saved old) (saved d) was.0 is.sub was.1 its n) k);
      }

  previous : (folder : Folder) → ServesPrevious c folder → ServesPrevious before folder
  previous folder is = ⊎_elim (λ held. previous_from folder is held) (λ gone. absurd (none-some is.sub (sym gone ∙ sym is_saved ∙ is.serves))) either

  pub left_cut : LeftCut old d c
  left_cut = record {
    before = before;
    left = left_before;
    fair = fair_before;
    unserved = λ none. is_serving ∙ neither old d c (serving old) (serving d) same (sym was_serving ∙ none);
    current = current;
    previous = previous;
    saved_before = was_saved;
    saved_here = is_saved;
  }

-- a root, and a state by the table
pub has_state : (d : Disk) (c : Reads) → Leaves d c → d.root ≡ true → (state : StorageState) → IsIn state d → HasState c
has_state d c leaves root state is = (state, ap table_of (seven_left d c leaves) ∙ is, exists (seven_of d) root state is)

pub record LeftSeat (old d : Disk) (c : Reads) : Type 0 where
  pub before : Reads
  pub left : Leaves old before
  pub fair : IsFair d c → IsFair old before
  pub seat : HasSameSeat before c

pub left_seat : (old d : Disk) (c : Reads) → SameSeat old d → Leaves d c → LeftSeat old d c
left_seat old d c same leaves =
    let it = left_cut old d c leaves same.current (inl same.previous) in
    record {
      before = it.before;
      left = it.left;
      fair = it.fair;
      seat = record {
        state = has_state d c leaves same.root same.state.0 same.state.1;
        unserved = it.unserved;
        current = it.current;
        previous = it.previous;
        there = ap (λ (o : Option Sub). is_some o) it.saved_here ∙ both_there old d c (saved old) (saved d) same.previous ∙ ap (λ (o : Option Sub). is_some o) (sym it.saved_before);
      };
    }
