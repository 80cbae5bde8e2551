-- After each call the disk is sound, and what reads is what a stop may leave.
use Rattle.std.proofs.Common.{◌≡◌, inl, inr, ⊎_elim, ℕ, List, [], ◌++◌, Option, Some, None, Result, Ok, Err, refl, sym, ◌∙◌, ap, subst, arith, append_assoc, length-append}
use Rattle.std.specs.Prelude.{Bool, true, false, not, if◌then◌else◌, ◌&&◌, is_some}
use Rattle.nn_base.specs.declared.sub.Sub.{Sub}
use Rattle.nn_base.specs.declared.file_name.FileName.{FileName}
use Rattle.nn_base.specs.Names.{sub_eq, file_eq}
use Rattle.nn_base.proofs.NamesLemmas.{sub_tells, file_tells}
use Rattle.nn_host.specs.Disk.{Disk, Reads, File, Call, Look, MakeSub, MakeFile, Append, Sync, RenameFile, RenameSub, RemoveFile, RemoveSub, Settle, Leaves, LeavesFile, IsSound, PartOf, with_file, with_sub, disk_after, reads_after, added, certain, add_pending, fresh_file}
use Rattle.nn_host.specs.Moments.{State, disk_at}
use Rattle.nn_host.specs.Calls.{Effect}
use Rattle.nn_host.proofs.LeavesLemmas.{leaves_certain}
use Rattle.nn_host.proofs.MakesLemmas.{Makes, now_makes}

-- what reads

same_some : (f : Option File) (b : Option (List ℕ)) → LeavesFile f b → is_some f ≡ is_some b
same_some None None l = refl
same_some None (Some b) l = absurd l
same_some (Some f) None l = absurd l
same_some (Some f) (Some b) l = refl

file_if : (c : Bool) (v x : Option File) (w y : Option (List ℕ)) → LeavesFile v w → LeavesFile x y → LeavesFile (if c then v else x) (if c then w else y)
file_if true v x w y l m = l
file_if false v x w y l m = m

leaves_if : (b c : Bool) (x y : Disk) (r s : Reads) → b ≡ c → Leaves x r → Leaves y s → Leaves (if b then x else y) (if c then r else s)
leaves_if true true x y r s e l m = l
leaves_if true false x y r s e l m = cc
leaves_if false true x y r s e l m = cc
leaves_if false false x y r s e l m = m

leaves_file : (d : Disk) (r : Reads) (s : Sub) (n : FileName) (v : Option File) (w : Option (List ℕ)) → Leaves d r → LeavesFile v w → Leaves (with_file d s n v) (with_file r s n w)
leaves_file d r s n v w l lv = record { root = l.root; subs = l.subs; files = λ q m. file_if (sub_eq q s && file_eq m n) v (d.file q m) w (r.file q m) lv (l.files q m) }

pub leaves_left : (d : Disk) (r : Reads) (s : Sub) (n : FileName) (v : Option File) → Leaves d r → LeavesFile v (r.file s n) → Leaves (with_file d s n v) r
leaves_left d r s n v l lv = record { root = l.root; subs = l.subs; files = λ q m. pick q m }
  where
    pick : (q : Sub) (m : FileName) → LeavesFile (if sub_eq q s && file_eq m n then v else d.file q m) (r.file q m)
    pick q m = elim (sub_tells q s) [
      | inr differ ↦ rw differ.0 (l.files q m)
      | inl same ↦ elim (file_tells m n) [
        | inr differ ↦ rw (same.0, differ.0) (l.files q m)
        | inl same_name ↦ rw (same.0, same_name.0) (subst (λ (x : Sub). LeavesFile v (r.file x m)) (sym same.1) (subst (λ (x : FileName). LeavesFile v (r.file s x)) (sym same_name.1) lv))
      ]
    ]

has_if : (c : Bool) (b x y : Bool) → x ≡ y → (if c then b else x) ≡ (if c then b else y)
has_if true b x y e = refl
has_if false b x y e = e

leaves_sub : (d : Disk) (r : Reads) (s : Sub) (b : Bool) (f : FileName → Option File) (g : FileName → Option (List ℕ)) → Leaves d r → ((n : FileName) → LeavesFile (f n) (g n)) → Leaves (with_sub d s b f) (with_sub r s b g)
leaves_sub d r s b f g l lf = record { root = l.root; subs = λ q. has_if (sub_eq q s) b (r.has q) (d.has q) (l.subs q); files = λ q m. file_if (sub_eq q s) (f m) (d.file q m) (g m) (r.file q m) (lf m) (l.files q m) }

longer : (bytes : List ℕ) (f : Option File) (b : Option (List ℕ)) → LeavesFile f b → LeavesFile (added add_pending bytes f) b
longer bytes None None l = tt
longer bytes None (Some b) l = absurd l
longer bytes (Some f) None l = absurd l
longer bytes (Some f) (Some b) l = record { tail = l.tail; split = l.split; short = omega (arith, l.short, length-append f.pending bytes) }

appended : (bytes : List ℕ) (f : Option File) (b : Option (List ℕ)) → LeavesFile f b → LeavesFile (added add_pending bytes f) (added (λ (x y : List ℕ). x ++ y) bytes b)
appended bytes None None l = tt
appended bytes None (Some b) l = absurd l
appended bytes (Some f) None l = absurd l
appended bytes (Some f) (Some b) l = record { tail = l.tail ++ bytes; split = ap (λ (x : List ℕ). x ++ bytes) l.split ∙ append_assoc f.synced l.tail bytes; short = omega (arith, l.short, length-append f.pending bytes, length-append l.tail bytes) }

-- what reads after a call that returned is what a stop may leave
pub leaves_after : (call : Call) (d : Disk) (r : Reads) → Leaves d r → Leaves (disk_after call r d) (reads_after call r)
leaves_after Look d r l = l
leaves_after (MakeSub s) d r l = leaves_if (d.root && not (d.has s)) (r.root && not (r.has s)) _ _ _ _ (λ i. sym l.root i && not (sym (l.subs s) i)) (leaves_sub d r s true (λ _. None) (λ _. None) l (λ n. tt)) l
leaves_after (MakeFile s n) d r l = leaves_if (d.has s) (r.has s) _ _ _ _ (sym (l.subs s)) (leaves_file d r s n (Some fresh_file) (Some []) l (record { tail = []; split = refl; short = omega arith })) l
leaves_after (Append s n bytes) d r l = leaves_file d r s n _ _ l (appended bytes (d.file s n) (r.file s n) (l.files s n))
leaves_after (Sync s n) d r l = leaves_left d r s n _ l (leaves_certain (r.file s n))
leaves_after (RenameFile s a b) d r l = leaves_if (is_some (d.file s a)) (is_some (r.file s a)) _ _ _ _ (same_some (d.file s a) (r.file s a) (l.files s a)) (leaves_file _ _ s b (d.file s a) (r.file s a) (leaves_file d r s a None None l tt) (l.files s a)) l
leaves_after (RenameSub a b) d r l = leaves_if (d.has a && not (d.has b)) (r.has a && not (r.has b)) _ _ _ _ (λ i. sym (l.subs a) i && not (sym (l.subs b) i)) (leaves_sub _ _ b true (d.file a) (r.file a) (leaves_sub d r a false (λ _. None) (λ _. None) l (λ n. tt)) (l.files a)) l
leaves_after (RemoveFile s n) d r l = leaves_file d r s n None None l tt
leaves_after (RemoveSub s) d r l = leaves_sub d r s false (λ _. None) (λ _. None) l (λ n. tt)
leaves_after Settle d r l = record { root = l.root; subs = l.subs; files = λ s n. leaves_certain (r.file s n) }

-- bytes that were handed over and never written are pending too
pub leaves_handed : (s : Sub) (n : FileName) (bytes : List ℕ) (d : Disk) (r : Reads) → Leaves d r → Leaves (disk_after (Append s n bytes) r d) r
leaves_handed s n bytes d r l = leaves_left d r s n _ l (longer bytes (d.file s n) (r.file s n) (l.files s n))

-- no file reads where its subfolder isn't there
pub unread : (d : Disk) (r : Reads) (s : Sub) (n : FileName) → Leaves d r → IsSound d → d.has s ≡ false → r.file s n ≡ None
unread d r s n leaves sound gone = go (d.file s n) (r.file s n) (sound.files s n gone) (leaves.files s n)
  where
    go : (f : Option File) (b : Option (List ℕ)) → f ≡ None → LeavesFile f b → b ≡ None
    go None None e l = refl
    go None (Some b) e l = absurd l
    go (Some f) None e l = refl
    go (Some f) (Some b) e l = cc

-- soundness

none_if : {A : Type 0} (c : Bool) (v x : Option A) → (c ≡ true → v ≡ None) → (c ≡ false → x ≡ None) → (if c then v else x) ≡ None
none_if true v x p q = p refl
none_if false v x p q = q refl

sound_file : (d : Disk) (s : Sub) (n : FileName) (v : Option File) → IsSound d → (d.has s ≡ false → v ≡ None) → IsSound (with_file d s n v)
sound_file d s n v sound gone = record { subs = sound.subs; files = λ q m out. at q m out }
  where
    at : (q : Sub) (m : FileName) → d.has q ≡ false → (if sub_eq q s && file_eq m n then v else d.file q m) ≡ None
    at q m out = elim (sub_tells q s) [
      | inr differ ↦ rw differ.0 (sound.files q m out)
      | inl same ↦ none_if (sub_eq q s && file_eq m n) v (d.file q m) (λ e. gone (ap d.has (sym same.1) ∙ out)) (λ e. sound.files q m out)
    ]

sound_sub : (d : Disk) (s : Sub) (b : Bool) (f : FileName → Option File) → IsSound d → (d.root ≡ false → b ≡ false) → (b ≡ false → (n : FileName) → f n ≡ None) → IsSound (with_sub d s b f)
sound_sub d s b f sound rooted gone = record { subs = λ q out. flag (sub_eq q s) q out; files = λ q m out. at (sub_eq q s) q m out }
  where
    flag : (c : Bool) (q : Sub) → d.root ≡ false → (if c then b else d.has q) ≡ false
    flag true q out = rooted out
    flag false q out = sound.subs q out

    at : (c : Bool) (q : Sub) (m : FileName) → (if c then b else d.has q) ≡ false → (if c then f m else d.file q m) ≡ None
    at true q m out = gone out m
    at false q m out = sound.files q m out

sound_if : (b : Bool) (x y : Disk) → (b ≡ true → IsSound x) → IsSound y → IsSound (if b then x else y)
sound_if true x y p q = p refl
sound_if false x y p q = q

added_none : {A : Type 0} (add : A → List ℕ → A) (bytes : List ℕ) (f : Option A) → f ≡ None → added add bytes f ≡ None
added_none add bytes None e = refl
added_none add bytes (Some a) e = cc

certain_none : (w : Option (List ℕ)) → w ≡ None → certain w ≡ None
certain_none None e = refl
certain_none (Some a) e = cc

both : (a b : Bool) → (a && not b) ≡ true → (a ≡ true) × (b ≡ false)
both true true e = cc
both true false e = (refl, refl)
both false b e = cc

pub sound_after : (call : Call) (d : Disk) (r : Reads) → Leaves d r → IsSound d → IsSound (disk_after call r d)
sound_after Look d r l sound = sound
sound_after (MakeSub s) d r l sound = sound_if (d.root && not (d.has s)) _ _ (λ e. sound_sub d s true (λ _. None) sound (λ out. let rooted = (both d.root (d.has s) e).0 in cc) (λ out n. refl)) sound
sound_after (MakeFile s n) d r l sound = sound_if (d.has s) _ _ (λ e. sound_file d s n _ sound (λ out. cc)) sound
sound_after (Append s n bytes) d r l sound = sound_file d s n _ sound (λ out. added_none add_pending bytes (d.file s n) (sound.files s n out))
sound_after (Sync s n) d r l sound = sound_file d s n _ sound (λ out. certain_none (r.file s n) (unread d r s n l sound out))
sound_after (RenameFile s a b) d r l sound = sound_if (is_some (d.file s a)) _ _ (λ e. sound_file _ s b (d.file s a) (sound_file d s a None sound (λ out. refl)) (λ out. sound.files s a out)) sound
sound_after (RenameSub a b) d r l sound = sound_if (d.has a && not (d.has b)) _ _ (λ e. sound_sub _ b true (d.file a) (sound_sub d a false (λ _. None) sound (λ out. refl) (λ out n. refl)) (λ out. let there = (both (d.has a) (d.has b) e).0 in let gone = sound.subs a out in cc) (λ out. cc)) sound
sound_after (RemoveFile s n) d r l sound = sound_file d s n None sound (λ out. refl)
sound_after (RemoveSub s) d r l sound = sound_sub d s false (λ _. None) sound (λ out. refl) (λ out n. refl)
sound_after Settle d r l sound = record { subs = sound.subs; files = λ s n out. certain_none (r.file s n) (unread d r s n l sound out) }

-- a part of a subfolder that a removal leaves is sound
sound_part : (s : Sub) (d part : Disk) → PartOf s d part → IsSound d → IsSound part
sound_part s d part is sound = record { subs = λ q out. flag q (sym is.root ∙ out); files = λ q n out. at q n out }
  where
    flag : (q : Sub) → d.root ≡ false → part.has q ≡ false
    flag q out = elim (sub_tells q s) [
      | inl same ↦ subst (λ (x : Sub). part.has x ≡ false) (sym same.1) (⊎_elim (λ gone. gone) (λ kept. kept ∙ sound.subs s out) is.sub)
      | inr differ ↦ is.other_subs q differ.1 ∙ sound.subs q out
    ]

    at : (q : Sub) (n : FileName) → part.has q ≡ false → part.file q n ≡ None
    at q n out = elim (sub_tells q s) [
      | inl same ↦ subst (λ (x : Sub). part.file x n ≡ None) (sym same.1) (is.gone n (ap part.has (sym same.1) ∙ out))
      | inr differ ↦ is.other_files q n differ.1 ∙ sound.files q n (sym (is.other_subs q differ.1) ∙ out)
    ]

-- each disk that a call may make is sound
pub sound_makes : (call : Call) (r : Reads) (d part : Disk) → Makes call r d part → Leaves d r → IsSound d → IsSound part
sound_makes Look r d part made l sound = absurd made
sound_makes (RemoveSub s) r d part made l sound = sound_part s d part made sound
sound_makes (MakeSub s) r d part made l sound = subst IsSound (sym made) (sound_after (MakeSub s) d r l sound)
sound_makes (MakeFile s n) r d part made l sound = subst IsSound (sym made) (sound_after (MakeFile s n) d r l sound)
sound_makes (Append s n bytes) r d part made l sound = subst IsSound (sym made) (sound_after (Append s n bytes) d r l sound)
sound_makes (Sync s n) r d part made l sound = subst IsSound (sym made) (sound_after (Sync s n) d r l sound)
sound_makes (RenameFile s a b) r d part made l sound = subst IsSound (sym made) (sound_after (RenameFile s a b) d r l sound)
sound_makes (RenameSub a b) r d part made l sound = subst IsSound (sym made) (sound_after (RenameSub a b) d r l sound)
sound_makes (RemoveFile s n) r d part made l sound = subst IsSound (sym made) (sound_after (RemoveFile s n) d r l sound)
sound_makes Settle r d part made l sound = subst IsSound (sym made) (sound_after Settle d r l sound)

-- the directory of a call is lawful after it, whether it returned or failed
pub sound_called : {T E : Type 0} (i : ℕ) (call : Call) (old new : State) (result : Result T E) → Effect i call old new result → Leaves (disk_at old i) (old.reads i) → IsSound (disk_at old i) → IsSound (disk_at new i)
sound_called i call old new result effect l sound = ⊎_elim
    (λ same. subst IsSound (sym same) sound)
    (λ made. sound_makes call (old.reads i) (disk_at old i) (disk_at new i) made l sound)
    (now_makes i call old new result effect)

pub leaves_called : {T E : Type 0} (i : ℕ) (call : Call) (old new : State) (result : Result T E) → Effect i call old new result → Leaves (disk_at old i) (old.reads i) → Leaves (disk_at new i) (new.reads i)
leaves_called i call old new (Ok v) effect l =
    subst (λ (d : Disk). Leaves d (new.reads i)) (sym effect.ok.disk) (subst (λ (r : Reads). Leaves (disk_after call (old.reads i) (disk_at old i)) r) (sym effect.ok.reads) (leaves_after call (disk_at old i) (old.reads i) l))
leaves_called i call old new (Err e) effect l = ⊎_elim
    (λ broken. broken.reads)
    (λ unbegun. subst (λ (d : Disk). Leaves d (new.reads i)) (sym unbegun.disk) (subst (λ (r : Reads). Leaves (disk_at old i) r) (sym unbegun.reads) l))
    effect.err
