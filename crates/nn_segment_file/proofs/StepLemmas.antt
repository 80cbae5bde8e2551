-- What each call of the journal makes of a directory's disk: in flight, failed or done.
use Rattle.std.proofs.Common.{◌≡◌, ◌≢◌, ℕ, ◌+◌, ◌<◌, ◌≤◌, ◌^◌, ℤ, List, [], ◌∷◌, ◌++◌, length, Option, Some, None, refl, sym, ◌∙◌, ap, subst, arith, append_assoc, append-nil}
use Rattle.std.specs.Prelude.{if◌then◌else◌, is_some}
use Rattle.std.proofs.lemmas.Option.{same_Some}
use Rattle.nn_base.specs.Limits.{most_segment}
use Rattle.nn_base.specs.declared.sub.Sub.TheVariants.{Current}
use Rattle.nn_base.specs.declared.file_name.FileName.{FileName}
use Rattle.nn_base.specs.declared.file_name.FileName.TheVariants.{Edits, InProgress}
use Rattle.nn_base.specs.FileText.{IsInRange}
use Rattle.nn_host.specs.Disk.{Disk, Reads, File, MakeFile, Append, Sync, RenameFile, with_file, added, add_pending, certain, fresh_file}
use Rattle.nn_host.proofs.FilesLemmas.{there, beside, same_file, again}
use Rattle.nn_host.proofs.MakesLemmas.{Makes}
use Rattle.nn_small.proofs.WriteLemmas.{made}
use Rattle.nn_marks.specs.declared.version.Version.{Version}
use Rattle.nn_record.specs.declared.transaction.Record.{Record}
use Rattle.nn_segment.specs.Segment.{header, spelled, AreFrom}
use Rattle.std.proofs.lemmas.Grind.{flat_map-append}
use Rattle.nn_record.specs.Spelling.{spelling}
use Rattle.nn_chain.specs.Records.{first_in, IsWithin}
use Rattle.nn_segment_file.specs.Log.{Shared, Follows, Logs, Rests, segment_text, IsSegment, without, Writes}
use Rattle.nn_segment_file.proofs.LogLemmas.{writes_logs}

-- ---- the shared list and ids, one part behind another

pub from_joined : (first : ℕ) (rs qs : List Record) → AreFrom first rs → AreFrom (first + length rs) qs → AreFrom first (rs ++ qs)
from_joined first [] qs p q = subst (λ (n : ℕ). AreFrom n qs) (omega arith) q
from_joined first (r ∷ rs) qs p q =
    let count : first + length (r ∷ rs) ≡ first + 1 + length rs = omega arith in
    (p.0, p.1, from_joined (first + 1) rs qs p.2 (subst (λ (n : ℕ). AreFrom n qs) count q))

pub follows_joined : (list : Shared) (last : ℕ) (rs qs : List Record) → Follows list last rs → Follows list (last + length rs) qs → Follows list last (rs ++ qs)
follows_joined list last [] qs p q = subst (λ (n : ℕ). Follows list n qs) (omega arith) q
follows_joined list last (r ∷ rs) qs p q =
    let count : last + length (r ∷ rs) ≡ last + 1 + length rs = omega arith in
    (p.0, p.1, follows_joined list (last + 1) rs qs p.2 (subst (λ (n : ℕ). Follows list n qs) count q))

-- ---- the bytes that go behind a segment

-- with these bytes behind it, the segment has these records too
abbrev pub Adds : ℤ → List Record → List Record → List ℕ → Type 0
Adds layout rs new bytes = segment_text layout (rs ++ new) ≡ segment_text layout rs ++ bytes

module _ (version : Version) (list : Shared) (last : ℕ) where
  -- another file under the name
  module _ (kept more : List Record) (name : FileName) (d : Disk) (writes : Writes version list last kept more name d) where
    rewritten : (kept2 more2 : List Record) (f : File) → IsSegment version.layout kept2 more2 f → ((id : ℕ) → id ≤ last + length (kept2 ++ more2) → IsWithin name id)
        → length (segment_text version.layout (kept2 ++ more2)) ≤ most_segment → AreFrom (last + 1) (kept2 ++ more2) → Follows list last (kept2 ++ more2)
        → Writes version list last kept2 more2 name (with_file d Current name (Some f))
    rewritten kept2 more2 f is within small ids follows = record {
      rests = subst (Rests version list last) (sym (again d Current name (Some f) None)) writes.rests;
      ranged = writes.ranged;
      begins = writes.begins;
      within = within;
      file = f;
      stands = there d Current name (Some f);
      segment = is;
      small = small;
      ids = ids;
      follows = follows;
    }

  -- ---- a segment is begun: its file is made

  pub begun : (r : Reads) (d part : Disk) → last + 1 < 2 ^ 63 → Rests version list last d → Makes (MakeFile Current (InProgress (last + 1))) r d part → Writes version list last [] [] (InProgress (last + 1)) part
  begun r d part room rests makes =
      let name = InProgress (last + 1) in
      let is : part ≡ with_file d Current name (Some fresh_file) = makes ∙ made d Current fresh_file add_pending name rests.has in
      let free : d.file Current name ≡ None = rests.none name (last + 1) (omega arith, room) refl (omega arith) in
      let back : without name part ≡ d = ap (without name) is ∙ again d Current name (Some fresh_file) None ∙ same_file d Current name None free in
      record {
        rests = subst (Rests version list last) (sym back) rests;
        ranged = (omega arith, room);
        begins = refl;
        within = λ id le. tt;
        file = fresh_file;
        stands = ap (λ (x : Disk). x.file Current name) is ∙ there d Current name (Some fresh_file);
        segment = record { synced = refl; whole = refl };
        small = omega arith;
        ids = tt;
        follows = tt;
      }

  module _ (kept more : List Record) (d : Disk) (writes : Writes version list last kept more (InProgress (last + 1)) d) where
    -- ---- records go behind it

    pub appended : (r : Reads) (part : Disk) (new : List Record) (bytes : List ℕ) → Adds version.layout (kept ++ more) new bytes → AreFrom (last + 1 + length (kept ++ more)) new → Follows list (last + length (kept ++ more)) new
        → length (segment_text version.layout ((kept ++ more) ++ new)) ≤ most_segment → Makes (Append Current (InProgress (last + 1)) bytes) r d part → Writes version list last kept (more ++ new) (InProgress (last + 1)) part
    appended r part new bytes adds ids follows small makes =
        let name = InProgress (last + 1) in
        let f : File = writes.file in
        let all : kept ++ (more ++ new) ≡ (kept ++ more) ++ new = sym (append_assoc kept more new) in
        let is : part ≡ with_file d Current name (Some (add_pending f bytes)) = makes ∙ ap (λ (x : Option File). with_file d Current name (added add_pending bytes x)) writes.stands in
        let whole : f.synced ++ (f.pending ++ bytes) ≡ segment_text version.layout (kept ++ (more ++ new)) = sym (append_assoc f.synced f.pending bytes) ∙ ap (λ (t : List ℕ). t ++ bytes) writes.segment.whole ∙ sym adds ∙ ap (segment_text version.layout) (sym all) in
        subst (Writes version list last kept (more ++ new) name) (sym is)
        (rewritten kept more name d writes kept (more ++ new) (add_pending f bytes) (record { synced = writes.segment.synced; whole = whole }) (λ id le. tt)
        (subst (λ (rs : List Record). length (segment_text version.layout rs) ≤ most_segment) (sym all) small)
        (subst (AreFrom (last + 1)) (sym all) (from_joined (last + 1) (kept ++ more) new writes.ids ids))
        (subst (Follows list last) (sym all) (follows_joined list last (kept ++ more) new writes.follows follows)))

    -- ---- it is synced

    -- what reads are all its bytes
    pub synced : (r : Reads) (part : Disk) → r.file Current (InProgress (last + 1)) ≡ Some (segment_text version.layout (kept ++ more)) → Makes (Sync Current (InProgress (last + 1))) r d part → Writes version list last (kept ++ more) [] (InProgress (last + 1)) part
    synced r part reads makes =
        let name = InProgress (last + 1) in
        let text = segment_text version.layout (kept ++ more) in
        let all : (kept ++ more) ++ [] ≡ kept ++ more = append-nil (kept ++ more) in
        let is : part ≡ with_file d Current name (Some (record { synced = text; pending = [] })) = makes ∙ ap (λ (x : Option (List ℕ)). with_file d Current name (certain x)) reads in
        subst (Writes version list last (kept ++ more) [] name) (sym is)
        (rewritten kept more name d writes (kept ++ more) [] (record { synced = text; pending = [] }) (record { synced = refl; whole = append-nil text ∙ ap (segment_text version.layout) (sym all) }) (λ id le. tt)
        (subst (λ (rs : List Record). length (segment_text version.layout rs) ≤ most_segment) (sym all) writes.small)
        (subst (AreFrom (last + 1)) (sym all) writes.ids)
        (subst (Follows list last) (sym all) writes.follows))

  -- ---- it gets its last name

  pub finalized : (kept : List Record) (r : Reads) (d part : Disk) → 1 ≤ length kept → last + length kept < 2 ^ 63 → Writes version list last kept [] (InProgress (last + 1)) d
      → Makes (RenameFile Current (InProgress (last + 1)) (Edits (last + 1, last + length kept))) r d part → Writes version list last kept [] (Edits (last + 1, last + length kept)) part
  finalized kept r d part some room writes makes =
      let from = InProgress (last + 1) in
      let to = Edits (last + 1, last + length kept) in
      let ranged : IsInRange to = (omega arith, omega (arith, some), room) in
      let rest : Disk = without from d in
      let free : rest.file Current to ≡ None = writes.rests.none to (last + 1) ranged refl (omega arith) in
      let is : part ≡ with_file rest Current to (Some writes.file) = makes ∙ (λ i. if is_some (writes.stands i) then with_file rest Current to (writes.stands i) else d) in
      let back : without to part ≡ rest = ap (without to) is ∙ again rest Current to (Some writes.file) None ∙ same_file rest Current to None free in
      record {
        rests = subst (Rests version list last) (sym back) writes.rests;
        ranged = ranged;
        begins = refl;
        within = λ id le. omega (arith, le, ap length (append-nil kept));
        file = writes.file;
        stands = ap (λ (x : Disk). x.file Current to) is ∙ there rest Current to (Some writes.file);
        segment = writes.segment;
        small = writes.small;
        ids = writes.ids;
        follows = writes.follows;
      }

  -- ---- a segment that is synced whole is behind all others

  module _ (kept : List Record) (name : FileName) (d : Disk) (writes : Writes version list last kept [] name d) where
    pub whole_logs : Logs version list (last + length kept) (last + length kept) d
    whole_logs = subst (λ (n : ℕ). Logs version list (last + length kept) n d) (ap (λ (rs : List Record). last + length rs) (append-nil kept)) (writes_logs version list last kept [] name d writes)

    pub rested : 1 ≤ length kept → Rests version list (last + length kept) d
    rested some = record {
      has = writes.rests.has;
      logs = whole_logs;
      none = λ n first ranged begins above.
          let ne : n ≢ name = λ e. let same : first ≡ last + 1 = same_Some first (last + 1) (sym begins ∙ ap first_in e ∙ writes.begins) in omega (arith, same, above, some) in
          sym (beside d Current name n None ne) ∙ writes.rests.none n first ranged begins (omega (arith, above));
    }

-- ---- which bytes go behind a segment

pub spelled-append : (rs qs : List Record) → spelled (rs ++ qs) ≡ spelled rs ++ spelled qs
unfolding spelled
spelled-append rs qs = flat_map-append spelling rs qs

-- the header and the first records
pub adds_first : (layout : ℤ) (r : Record) (rs : List Record) → Adds layout [] (r ∷ rs) (header layout ++ spelled (r ∷ rs))
adds_first layout r rs = refl

-- records behind others
pub adds_more : (layout : ℤ) (rs new : List Record) → 1 ≤ length rs → Adds layout rs new (spelled new)
adds_more layout [] new some = absurd (omega (arith, some))
adds_more layout (r ∷ rs) new some = ap (λ t. header layout ++ t) (spelled-append (r ∷ rs) new) ∙ sym (append_assoc (header layout) (spelled (r ∷ rs)) (spelled new))
