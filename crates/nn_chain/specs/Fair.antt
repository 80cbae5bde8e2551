-- Fairness of a stop, a premise of every claim on runs: torn bytes spell no record that wasn't written.
use Rattle.std.specs.Prelude.{◌≡◌, ◌<◌, ℕ, ℤ, List, ◌++◌, Some}
use Rattle.nn_base.specs.declared.sub.Sub.{Sub}
use Rattle.nn_base.specs.declared.file_name.FileName.{FileName}
use Rattle.nn_base.specs.FileText.{IsInRange}
use Rattle.nn_host.specs.Disk.{Disk, Reads, File}
use Rattle.nn_host.specs.Moments.{Moment}
use Rattle.nn_record.specs.declared.transaction.Record.{Record}
use Rattle.nn_segment.specs.Segment.{IsIntactRun}
use Rattle.nn_chain.specs.Records.{first_in}

abbrev pub IsPrefix : List Record → List Record → Type 0
IsPrefix some all = (more : List Record) × (all ≡ some ++ more)

-- The intact run of the bytes that are left is a prefix of that of all bytes that were handed over.
abbrev pub IsFairFile : ℕ → File → List ℕ → Type 0
IsFairFile first file bytes = (layout : ℤ) (left given : List Record) → IsIntactRun bytes layout first left → IsIntactRun (file.synced ++ file.pending) layout first given → IsPrefix left given

-- Each segment file that is left is so. Nothing is asked of images: an image gets its name only after its sync.
abbrev pub IsFair : Disk → Reads → Type 0
IsFair d c = (sub : Sub) (name : FileName) (first : ℕ) (file : File) (bytes : List ℕ) → IsInRange name → first_in name ≡ Some first → d.file sub name ≡ Some file → c.file sub name ≡ Some bytes → IsFairFile first file bytes

-- a stop that finds so many directories, each with its files, and leaves these contents
abbrev pub IsFairStop : ℕ → Moment → (ℕ → Reads) → Type 0
IsFairStop count m c = (i : ℕ) → i < count → IsFair (m.dirs i).disk (c i)

-- ---- what is fair in any case

-- each file reads as a front of the bytes that were handed over
abbrev pub IsCutShort : Disk → Reads → Type 0
IsCutShort d c = (sub : Sub) (name : FileName) (file : File) (bytes : List ℕ) → d.file sub name ≡ Some file → c.file sub name ≡ Some bytes → (more : List ℕ) × (file.synced ++ file.pending ≡ bytes ++ more)

-- each file reads as all of them
abbrev pub IsWhole : Disk → Reads → Type 0
IsWhole d c = (sub : Sub) (name : FileName) (file : File) (bytes : List ℕ) → d.file sub name ≡ Some file → c.file sub name ≡ Some bytes → bytes ≡ file.synced ++ file.pending

abbrev pub CutShortIsFair : Type 0
CutShortIsFair = (d : Disk) (c : Reads) → IsCutShort d c → IsFair d c

abbrev pub WholeIsFair : Type 0
WholeIsFair = (d : Disk) (c : Reads) → IsWhole d c → IsFair d c
