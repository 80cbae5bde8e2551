-- Files of `current` that go or get other names, one after the other.
use Rattle.std.specs.Prelude.{◌≡◌, ◌≢◌, ℕ, true, List, ◌++◌, Contains, All, AllPairs, Option, Some, None, is_some}
use Rattle.nn_base.specs.declared.sub.Sub.{Sub}
use Rattle.nn_base.specs.declared.sub.Sub.TheVariants.{Current}
use Rattle.nn_base.specs.declared.file_name.FileName.{FileName}
use Rattle.nn_host.specs.Disk.{Held, Call, RemoveFile, RenameFile}
use Rattle.nn_host.specs.Moments.{State, disk_at}
use Rattle.nn_tidy.specs.declared.steps.Step.{Step}

-- ---- one step

abbrev pub call_by : FileName → Option FileName → Call
call_by from None = RemoveFile Current from
call_by from (Some to) = RenameFile Current from to

-- the call that takes it
abbrev pub call_of : Step → Call
call_of step = call_by step.from step.to

-- ---- several

-- none of the four names is another's
pub record IsApart (a b : Step) : Type 0 where
  pub from : a.from ≢ b.from
  pub into : a.to ≢ Some b.from
  pub back : b.to ≢ Some a.from
  pub names : (n : FileName) → a.to ≡ Some n → b.to ≢ Some n

abbrev pub AreApart : List Step → Type 0
AreApart steps = AllPairs IsApart steps × All (λ s. s.to ≢ Some s.from) steps

-- each of the files is there
abbrev pub AreThere : {A : Type 0} → List Step → Held A → Type 0
AreThere steps d = (s : Step) → Contains steps s → is_some (d.file Current s.from) ≡ true

-- all of these were taken: the files are gone, each that got another name has it, and all else is as it was
pub record HasTaken {A : Type 0} (taken : List Step) (old d : Held A) : Type 0 where
  pub root : d.root ≡ old.root
  pub subs : (s : Sub) → d.has s ≡ old.has s
  pub other_subs : (s : Sub) (n : FileName) → s ≢ Current → d.file s n ≡ old.file s n
  pub gone : (s : Step) → Contains taken s → d.file Current s.from ≡ None
  pub renamed : (s : Step) (n : FileName) → Contains taken s → s.to ≡ Some n → d.file Current n ≡ old.file Current s.from
  pub kept : (n : FileName) → ((s : Step) → Contains taken s → (n ≢ s.from) × (s.to ≢ Some n)) → d.file Current n ≡ old.file Current n

-- the last of these were taken
pub record AreTaken {A : Type 0} (steps : List Step) (old d : Held A) : Type 0 where
  pub left : List Step
  pub taken : List Step
  pub split : steps ≡ left ++ taken
  pub has : HasTaken taken old d

-- all of them were, on the disk of this directory and as it reads
pub record WereTaken (steps : List Step) (i : ℕ) (old new : State) : Type 0 where
  pub disk : HasTaken steps (disk_at old i) (disk_at new i)
  pub reads : HasTaken steps (old.reads i) (new.reads i)
