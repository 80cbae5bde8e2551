-- What a kept directory shows is how the host reads.
use Rattle.std.proofs.Common.{◌≡◌, ℕ, ◌<◌, List, length, get_or, map, Option, Some, None, is_some, Result, Ok, Err, refl, sym, ◌∙◌, ap, subst}
use Rattle.std.specs.Prelude.{option_map, is_err, false}
use Rattle.nn_base.specs.declared.sub.Sub.{Sub}
use Rattle.nn_base.specs.declared.file_name.FileName.{FileName}
use Rattle.nn_host.specs.Disk.{Held, Reads, Look}
use Rattle.nn_host.specs.Moments.{State}
use Rattle.nn_host.specs.Calls.{Effect}
use Rattle.nn_host.specs.Listing.{bytes_of, IsListing}
use Rattle.nn_memhost.specs.declared.kept.KeptDir.{KeptDir}
use Rattle.nn_memhost.specs.declared.mem.MemHost.{MemHost}
use Rattle.nn_memhost.specs.Content.{Content, shown_of}
use Rattle.nn_memhost.specs.Held.{held_of, reads_of}
use Rattle.nn_memhost.specs.Kept.{placed_of, content_at}
use Rattle.nn_memhost.specs.Names.{AreListed}
use Rattle.nn_memhost.specs.Mem.{mem_state}
use Rattle.nn_memhost.proofs.DirsLemmas.{kept_at-read}

pub reads_is : (m : MemHost) (i : ℕ) (d : KeptDir) → i < length m.dirs.items → d ≡ get_or m.dirs.items i d → reads_of (held_of d) ≡ (mem_state m).reads i
reads_is m i d lt is = ap (λ (h : Held Content). reads_of h) (sym (kept_at-read m.dirs.items i d lt is) ∙ sym (m.tied i))

pub some_shown : (x : Option Content) → is_some x ≡ is_some (option_map (λ (c : Content). c.bytes) x)
some_shown None = refl
some_shown (Some c) = refl

pub shown : (x : Option Content) → shown_of x ≡ bytes_of (option_map (λ (c : Content). c.bytes) x)
shown None = refl
shown (Some c) = refl

-- a listing of the kept files is one of what reads
pub listing : (d : KeptDir) (r : Reads) (s : Sub) (names : List FileName) → reads_of (held_of d) ≡ r → AreListed (map placed_of d.files.items) s names → IsListing r s names
listing d r s names is listed = subst (λ (x : Reads). IsListing x s names) is (record {
  all = λ n there. listed.all n (some_shown (content_at d.files.items s n) ∙ there);
  only = λ n among. sym (some_shown (content_at d.files.items s n)) ∙ listed.only n among;
  ascending = listed.ascending;
})

-- a look that was answered changes nothing that reads
pub look_reads : {T E : Type 0} (i : ℕ) (old new : State) (result : Result T E) → is_err result ≡ false → Effect i Look old new result → new.reads i ≡ old.reads i
look_reads i old new (Ok v) e effect = effect.ok.reads
look_reads i old new (Err x) e effect = cc
