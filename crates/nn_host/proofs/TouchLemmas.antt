-- A call changes nothing but the names that it touches.
use Rattle.std.proofs.Common.{◌≡◌, ◌≢◌, ◌⊎◌, inl, inr, Option, None, refl, ◌∙◌, ap}
use Rattle.std.specs.Prelude.{Bool, true, false, not, if◌then◌else◌, ◌&&◌, is_some}
use Rattle.nn_base.specs.declared.sub.Sub.{Sub}
use Rattle.nn_base.specs.declared.file_name.FileName.{FileName}
use Rattle.nn_host.specs.Disk.{Disk, Reads, File, Call, Look, MakeSub, MakeFile, Append, Sync, RenameFile, RenameSub, RemoveFile, RemoveSub, Settle, with_file, with_sub}
use Rattle.nn_host.proofs.FilesLemmas.{sub_other, file_kept, either}
use Rattle.nn_host.proofs.MakesLemmas.{Makes}

-- the names that a call may change
abbrev pub Touches : Call → Sub → FileName → Type 0
Touches Look s n = ⊥
Touches (MakeSub q) s n = s ≡ q
Touches (MakeFile q m) s n = (s ≡ q) × (n ≡ m)
Touches (Append q m bytes) s n = (s ≡ q) × (n ≡ m)
Touches (Sync q m) s n = (s ≡ q) × (n ≡ m)
Touches (RenameFile q a b) s n = (s ≡ q) × ((n ≡ a) ⊎ (n ≡ b))
Touches (RenameSub a b) s n = (s ≡ a) ⊎ (s ≡ b)
Touches (RemoveFile q m) s n = (s ≡ q) × (n ≡ m)
Touches (RemoveSub q) s n = s ≡ q
Touches Settle s n = Unit {0}

-- the subfolders that a call may make or take away
abbrev pub Moves : Call → Sub → Type 0
Moves (MakeSub q) s = s ≡ q
Moves (RenameSub a b) s = (s ≡ a) ⊎ (s ≡ b)
Moves (RemoveSub q) s = s ≡ q
Moves call s = ⊥

-- another place in the directory
module _ (d : Disk) (s : Sub) (n : FileName) where
  sub_kept : (q : Sub) (b : Bool) (f : FileName → Option File) → s ≢ q → (with_sub d q b f).file s n ≡ d.file s n
  sub_kept q b f ne = let e = sub_other s q ne in rw e

  one_of : (b : Bool) (x y : Disk) → x.file s n ≡ d.file s n → y.file s n ≡ d.file s n → (if b then x else y).file s n ≡ d.file s n
  one_of b x y p q = either (λ (z : Disk). z.file s n ≡ d.file s n) b x y p q

  at_made : (part x : Disk) → part ≡ x → x.file s n ≡ d.file s n → part.file s n ≡ d.file s n
  at_made part x is e = ap (λ (z : Disk). z.file s n) is ∙ e

pub untouched : (call : Call) (r : Reads) (d part : Disk) (s : Sub) (n : FileName) → Makes call r d part → (Touches call s n → ⊥) → part.file s n ≡ d.file s n
untouched Look r d part s n made out = absurd made
untouched (MakeSub q) r d part s n made out = at_made d s n part _ made (one_of d s n (d.root && not (d.has q)) _ d (sub_kept d s n q true (λ _. None) out) refl)
untouched (MakeFile q m) r d part s n made out = at_made d s n part _ made (one_of d s n (d.has q) _ d (file_kept d q m _ s n out) refl)
untouched (Append q m bytes) r d part s n made out = at_made d s n part _ made (file_kept d q m _ s n out)
untouched (Sync q m) r d part s n made out = at_made d s n part _ made (file_kept d q m _ s n out)
untouched (RenameFile q a b) r d part s n made out = at_made d s n part _ made
    (one_of d s n (is_some (d.file q a)) _ d (file_kept (with_file d q a None) q b (d.file q a) s n (λ at. out (at.0, inr at.1)) ∙ file_kept d q a None s n (λ at. out (at.0, inl at.1))) refl)
untouched (RenameSub a b) r d part s n made out = at_made d s n part _ made
    (one_of d s n (d.has a && not (d.has b)) _ d (sub_kept (with_sub d a false (λ _. None)) s n b true (d.file a) (λ at. out (inr at)) ∙ sub_kept d s n a false (λ _. None) (λ at. out (inl at))) refl)
untouched (RemoveFile q m) r d part s n made out = at_made d s n part _ made (file_kept d q m None s n out)
untouched (RemoveSub q) r d part s n made out = made.other_files s n out
untouched Settle r d part s n made out = absurd (out tt)

-- another subfolder of the directory
module _ (d : Disk) (s : Sub) where
  flag_kept : (q : Sub) (b : Bool) (f : FileName → Option File) → s ≢ q → (with_sub d q b f).has s ≡ d.has s
  flag_kept q b f ne = let e = sub_other s q ne in rw e

  flag_of : (b : Bool) (x y : Disk) → x.has s ≡ d.has s → y.has s ≡ d.has s → (if b then x else y).has s ≡ d.has s
  flag_of b x y p q = either (λ (z : Disk). z.has s ≡ d.has s) b x y p q

  has_made : (part x : Disk) → part ≡ x → x.has s ≡ d.has s → part.has s ≡ d.has s
  has_made part x is e = ap (λ (z : Disk). z.has s) is ∙ e

pub unmoved : (call : Call) (r : Reads) (d part : Disk) (s : Sub) → Makes call r d part → (Moves call s → ⊥) → part.has s ≡ d.has s
unmoved Look r d part s made out = absurd made
unmoved (MakeSub q) r d part s made out = has_made d s part _ made (flag_of d s (d.root && not (d.has q)) _ d (flag_kept d s q true (λ _. None) out) refl)
unmoved (MakeFile q m) r d part s made out = has_made d s part _ made (flag_of d s (d.has q) _ d refl refl)
unmoved (Append q m bytes) r d part s made out = has_made d s part _ made refl
unmoved (Sync q m) r d part s made out = has_made d s part _ made refl
unmoved (RenameFile q a b) r d part s made out = has_made d s part _ made (flag_of d s (is_some (d.file q a)) _ d refl refl)
unmoved (RenameSub a b) r d part s made out = has_made d s part _ made
    (flag_of d s (d.has a && not (d.has b)) _ d (flag_kept (with_sub d a false (λ _. None)) s b true (d.file a) (λ at. out (inr at)) ∙ flag_kept d s a false (λ _. None) (λ at. out (inl at))) refl)
unmoved (RemoveFile q m) r d part s made out = has_made d s part _ made refl
unmoved (RemoveSub q) r d part s made out = made.other_subs s out
unmoved Settle r d part s made out = has_made d s part _ made refl

-- no call makes or takes away a root
pub rooted : (call : Call) (r : Reads) (d part : Disk) → Makes call r d part → part.root ≡ d.root
rooted Look r d part made = absurd made
rooted (MakeSub q) r d part made = ap (λ (z : Disk). z.root) made ∙ either (λ (z : Disk). z.root ≡ d.root) (d.root && not (d.has q)) _ d refl refl
rooted (MakeFile q m) r d part made = ap (λ (z : Disk). z.root) made ∙ either (λ (z : Disk). z.root ≡ d.root) (d.has q) _ d refl refl
rooted (Append q m bytes) r d part made = ap (λ (z : Disk). z.root) made
rooted (Sync q m) r d part made = ap (λ (z : Disk). z.root) made
rooted (RenameFile q a b) r d part made = ap (λ (z : Disk). z.root) made ∙ either (λ (z : Disk). z.root ≡ d.root) (is_some (d.file q a)) _ d refl refl
rooted (RenameSub a b) r d part made = ap (λ (z : Disk). z.root) made ∙ either (λ (z : Disk). z.root ≡ d.root) (d.has a && not (d.has b)) _ d refl refl
rooted (RemoveFile q m) r d part made = ap (λ (z : Disk). z.root) made
rooted (RemoveSub q) r d part made = made.root
rooted Settle r d part made = ap (λ (z : Disk). z.root) made
