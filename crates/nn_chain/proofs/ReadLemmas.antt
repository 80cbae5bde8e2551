-- What is told where an image wasn't read.
use Rattle.std.proofs.Common.{◌≡◌, ◌≢◌, inr, ℕ, ◌≤◌, List, length, Option, Some, true, Result, Ok, Err, sym, subst}
use Rattle.std.specs.Prelude.{IsErrAnd, IfErr}
use Rattle.nn_base.specs.Limits.{most_image}
use Rattle.nn_base.specs.declared.sub.Sub.{Sub}
use Rattle.nn_base.specs.declared.file_name.FileName.TheVariants.{Image}
use Rattle.nn_host.specs.Disk.{Reads}
use Rattle.nn_marks.specs.declared.version.Version.{Version}
use Rattle.nn_host.specs.Moments.{State}
use Rattle.nn_host.specs.Runs.{Looked}
use Rattle.nn_chain.specs.declared.image.ReadImage.{ReadImage}
use Rattle.nn_chain.specs.declared.image.ReadImage.TheVariants.{Failed, Unsound, Memory}
use Rattle.nn_chain.specs.declared.why.ImageWhy.TheVariants as why
use Rattle.nn_chain.specs.Folder.{Folder, folder_at}
use Rattle.nn_chain.specs.Images.{HasDigest, HasImage}
use Rattle.nn_chain.specs.Reading.{answered, MayBeIntact, IsDigest, IsTold, IsToldAnyhow, IsToldOf}

-- an answer that is handed on

pub handed_on : {T : Type 0} (P : ReadImage → Type 0) (result : Result T ReadImage) (answer : ReadImage) → IsErrAnd result (λ e. e ≡ answer) → P answer → IfErr result P
handed_on P (Ok value) answer is p = absurd is
handed_on P (Err e) answer is p = subst P (sym is) p

pub looked_on : (S : Type 0) {T told : Type 0} {i : ℕ} {a b : State} (result : Result T ReadImage) (answer : ReadImage) → IsErrAnd result (λ e. e ≡ answer) → Looked told i a b (answered {T = S} (Err answer)) → Looked told i a b (answered result)
looked_on S (Ok value) answer is p = absurd is
looked_on S {T} {told} {i} {a} {b} (Err e) answer is p = subst (λ (x : ReadImage). Looked told i a b (answered {T = T} (Err x))) (sym is) (of_any answer p)
  where
    of_any : (x : ReadImage) → Looked told i a b (answered {T = S} (Err x)) → Looked told i a b (answered {T = T} (Err x))
    of_any Failed p = p
    of_any (Unsound why) p = p
    of_any Memory p = p

-- loading asks nothing of the host

pub looked_still : {T told : Type 0} {i : ℕ} {a b : State} (bytes : List ℕ) (version : Version) (id : ℕ) (result : Result T ReadImage) → IfErr result (λ answer. IsToldOf bytes version id answer) → Looked told i a b true → Looked told i a b (answered result)
looked_still bytes version id (Ok value) told p = p
looked_still bytes version id (Err Failed) told p = absurd told
looked_still bytes version id (Err (Unsound why)) told p = p
looked_still bytes version id (Err Memory) told p = p

-- bytes whose digest agrees, and which weren't loaded
pub told_of : {T : Type 0} (folder : Folder) (version : Version) (id : ℕ) (bytes : List ℕ) (result : Result T ReadImage) → folder (Image id) ≡ Some bytes → HasDigest folder id bytes → MayBeIntact folder id
    → IfErr result (λ answer. IsToldOf bytes version id answer) → IfErr result (λ answer. IsTold folder version id answer)
told_of folder version id bytes (Ok value) there digest may told = tt
told_of folder version id bytes (Err Failed) there digest may told = tt
told_of folder version id bytes (Err (Unsound why.Absent)) there digest may told = absurd told
told_of folder version id bytes (Err (Unsound why.Digest)) there digest may told = absurd told
told_of folder version id bytes (Err (Unsound why.Named)) there digest may told = (bytes, there, (digest, told))
told_of folder version id bytes (Err (Unsound (why.Fault found))) there digest may told = (bytes, there, (inr digest, told.0, told.1))
told_of folder version id bytes (Err Memory) there digest may told = may

-- an image within its limit, whose MD5 file has a digest for it
pub may_be : (old new : Reads) (sub : Sub) (id : ℕ) (found : Option (List ℕ)) (digest : List ℕ) → new ≡ old → HasImage (folder_at old sub) id (λ bytes. length bytes ≤ most_image) → IsDigest (folder_at new sub) id found → found ≡ Some digest → MayBeIntact (folder_at old sub) id
may_be old new sub id found digest same image is found_is =
    let its = subst (λ (r : Reads). IsDigest (folder_at r sub) id (Some digest)) same (subst (IsDigest (folder_at new sub) id) found_is is) in
    record { image = image; digest = (digest, its.0, its.1, its.2) }

-- an answer that isn't want of memory, or is one of what may be intact
pub told_anyhow : {T : Type 0} (old new : Reads) (sub : Sub) (version : Version) (id : ℕ) (answer : ReadImage) (result : Result T ReadImage) → new ≡ old → IsErrAnd result (λ e. e ≡ answer) → (answer ≢ Memory → IsToldAnyhow (folder_at new sub) id answer) → MayBeIntact (folder_at old sub) id
    → IfErr result (λ e. IsTold (folder_at old sub) version id e)
told_anyhow old new sub version id answer result same is told may = handed_on (λ e. IsTold (folder_at old sub) version id e) result answer is (of answer (subst (λ (r : Reads). answer ≢ Memory → IsToldAnyhow (folder_at r sub) id answer) same told))
  where
    of : (e : ReadImage) → (e ≢ Memory → IsToldAnyhow (folder_at old sub) id e) → IsTold (folder_at old sub) version id e
    of Failed p = tt
    of (Unsound why) p = p (λ e. cc) version
    of Memory p = may
