-- The lines of a text, done one after another, and the lines of files.
use Rattle.std.proofs.Common.{◌≡◌, ℕ, ◌+◌, List, [], ◌∷◌, ◌++◌, length, take, drop, Ok, Err, Some, None, Result, sym, ◌∙◌, ap, subst, arith, append_assoc, append-nil}
use Rattle.std.specs.List.{position}
use Rattle.nn_base.specs.Paths.{Bytes}
use Rattle.nn_base.proofs.MarkLemmas.{is_mark}
use Rattle.nn_host.specs.Moments.{State}
use Rattle.nn_marks.specs.declared.version.Version.{Version}
use Rattle.nn_tree.specs.Namespace.{Namespace}
use Rattle.nn_script.specs.Lines.{lines_of}
use Rattle.nn_generate.specs.Generated.{script_of}
use Rattle.nn_journal.specs.declared.journal.JournalSet.{JournalSet}
use Rattle.nn_fill.specs.Filled.{AreGood}
use Rattle.nn_fill.proofs.ScriptLemmas.{NextLine, next_line, no_line}
use Rattle.nn_core.specs.declared.event.End.{End}
use Rattle.nn_serve.specs.declared.tally.Tally.{Tally}
use Rattle.nn_serve.specs.Serving.{HasRoom}
use Rattle.nn_serve.specs.Filling.{IsFilling, FillsTo, Fills}
use Rattle.nn_serve.proofs.LoopLemmas.{room_less}

-- so many lines of a text were done, and this is left of it
pub record Filling (told : Type 0) (at files count : ℕ) (version : Version) (ns : Namespace) (time : ℕ) (journal : JournalSet) (done lines : List Bytes) (left : Bytes) (tally : Tally) (more : ℕ) (old s : State) : Type 0 where
  pub seen : List Bytes
  pub are : lines ≡ seen ++ lines_of left
  pub filling : IsFilling told at files count version ns time journal (done ++ seen) tally old s
  pub room : HasRoom told old journal (length (lines_of left) + more)

-- so it is of a text in a run that began so, wherever its lines stand in the script
abbrev pub FillsSoFar : Type 0 → List Bytes → ℕ → Version → Namespace → Namespace → ℕ → ℕ → JournalSet → JournalSet → Tally → Tally → Bytes → State → State → Type 0
FillsSoFar told lines count version ns ns_now time time_now journal log tally tally_now left s now = (at files : ℕ) (done later : List Bytes) (old : State) (more : ℕ) → lines_of (script_of files) ≡ done ++ (lines ++ later)
    → IsFilling told at files count version ns time journal done tally old s → HasRoom told old journal (length lines + more) → Filling told at files count version ns_now time_now log done lines left tally_now more old now

module _ {told : Type 0} (lines : List Bytes) (count : ℕ) (version : Version) (ns : Namespace) (time : ℕ) (journal : JournalSet) (tally : Tally) (s : State) where
  pub nothing_yet : (text : Bytes) → lines ≡ lines_of text → FillsSoFar told lines count version ns ns time time journal journal tally tally text s s
  nothing_yet text is at files done later old more split filling room = record {
    seen = [];
    are = is;
    filling = subst (λ (d : List Bytes). IsFilling told at files count version ns time journal d tally old s) (sym (append-nil done)) filling;
    room = subst (λ (k : ℕ). HasRoom told old journal (k + more)) (ap length is) room;
  }

  module _ (ns_now : Namespace) (time_now : ℕ) (log : JournalSet) (tally_now : Tally) (left : Bytes) (end : ℕ) (now : State) (so_far : FillsSoFar told lines count version ns ns_now time time_now journal log tally tally_now left s now) (good : AreGood left) (found : position (is_mark 10) left ≡ Some end) where
    next : NextLine left end
    next = next_line left end good found

    -- where the next line stands
    stands : (done later seen : List Bytes) (files : ℕ) → lines_of (script_of files) ≡ done ++ (lines ++ later) → lines ≡ seen ++ lines_of left
        → lines_of (script_of files) ≡ (done ++ seen) ++ ((take end left ∷ []) ++ (lines_of (drop (end + 1) left) ++ later))
    stands done later seen files split are =
        split ∙ ap (λ ls. done ++ (ls ++ later)) (are ∙ ap (λ ls. seen ++ ls) next.split) ∙ ap (λ ls. done ++ ls) (append_assoc seen (take end left ∷ lines_of (drop (end + 1) left)) later)
        ∙ sym (append_assoc done seen ((take end left ∷ lines_of (drop (end + 1) left)) ++ later))

    module _ (ns_then : Namespace) (time_then : ℕ) (log_then : JournalSet) (tally_then : Tally) (new : State) (result : Result (Unit {0}) End)
        (fills : Fills told (take end left ∷ []) count version ns_now ns_then time_now time_then log log_then tally_now tally_then now new result) where
      line_done : (at files : ℕ) (done later : List Bytes) (old : State) (more : ℕ) → lines_of (script_of files) ≡ done ++ (lines ++ later) → (it : Filling told at files count version ns_now time_now log done lines left tally_now more old now)
          → FillsTo told at files count version ns_then time_then log_then ((done ++ it.seen) ++ take end left ∷ []) tally_then (length (lines_of (drop (end + 1) left)) + more) old new result
      line_done at files done later old more split it =
          fills at files (done ++ it.seen) (lines_of (drop (end + 1) left) ++ later) old (length (lines_of (drop (end + 1) left)) + more) (stands done later it.seen files split it.are) it.filling
          (room_less (1 + (length (lines_of (drop (end + 1) left)) + more)) (omega (arith, ap length next.split)) it.room)

    -- one more was done
    pub one_more : (ns_then : Namespace) (time_then : ℕ) (log_then : JournalSet) (tally_then : Tally) (new : State) (v : Unit {0}) → Fills told (take end left ∷ []) count version ns_now ns_then time_now time_then log log_then tally_now tally_then now new (Ok v)
        → FillsSoFar told lines count version ns ns_then time time_then journal log_then tally tally_then (drop (end + 1) left) s new
    one_more ns_then time_then log_then tally_then new v fills at files done later old more split filling room =
        let it = so_far at files done later old more split filling room in
        let then = line_done ns_then time_then log_then tally_then new (Ok v) fills at files done later old more split it in record {
          seen = it.seen ++ take end left ∷ [];
          are = it.are ∙ ap (λ ls. it.seen ++ ls) next.split ∙ sym (append_assoc it.seen (take end left ∷ []) (lines_of (drop (end + 1) left)));
          filling = subst (λ (d : List Bytes). IsFilling told at files count version ns_then time_then log_then d tally_then old new) (append_assoc done it.seen (take end left ∷ [])) then.0;
          room = then.1;
        }

    -- it ended the run
    pub cut_off : (ns_then : Namespace) (time_then : ℕ) (log_then : JournalSet) (tally_then : Tally) (new : State) (why : End) → Fills told (take end left ∷ []) count version ns_now ns_then time_now time_then log log_then tally_now tally_then now new (Err why)
        → Fills told lines count version ns ns_then time time_then journal log_then tally tally_then s new (Err why)
    cut_off ns_then time_then log_then tally_then new why fills at files done later old more split filling room =
        let it = so_far at files done later old more split filling room in
        line_done ns_then time_then log_then tally_then new (Err why) fills at files done later old more split it

  -- all were done
  pub all_done : (ns_now : Namespace) (time_now : ℕ) (log : JournalSet) (tally_now : Tally) (left : Bytes) (now : State) → FillsSoFar told lines count version ns ns_now time time_now journal log tally tally_now left s now → AreGood left → position (is_mark 10) left ≡ None
      → (v : Unit {0}) → Fills told lines count version ns ns_now time time_now journal log tally tally_now s now (Ok v)
  all_done ns_now time_now log tally_now left now so_far good none v at files done later old more split filling room =
      let it = so_far at files done later old more split filling room in
      let nothing = no_line left good none in
      let all : it.seen ≡ lines = sym (append-nil it.seen) ∙ ap (λ ls. it.seen ++ ls) (sym nothing) ∙ sym it.are in (
        subst (λ (l : List Bytes). IsFilling told at files count version ns_now time_now log (done ++ l) tally_now old now) all it.filling,
        room_less more (omega arith) it.room,
      )

pub fills_as : {told : Type 0} {n m : ℕ} {version other : Version} (lines : List Bytes) (ns ns_after : Namespace) (time time_after : ℕ) (journal after : JournalSet) (tally tally_after : Tally) (s new : State) (result : Result (Unit {0}) End) → n ≡ m → version ≡ other
    → Fills told lines n version ns ns_after time time_after journal after tally tally_after s new result → Fills told lines m other ns ns_after time time_after journal after tally tally_after s new result
fills_as {told} {m = m} {version = version} lines ns ns_after time time_after journal after tally tally_after s new result same alike is =
    subst (λ (v : Version). Fills told lines m v ns ns_after time time_after journal after tally tally_after s new result) alike
    (subst (λ k. Fills told lines k version ns ns_after time time_after journal after tally tally_after s new result) same is)

-- what is left behind a line, as it was cut
pub left_as : {told : Type 0} {lines : List Bytes} {count : ℕ} {version : Version} {ns ns_now : Namespace} {time time_now : ℕ} {journal log : JournalSet} {tally tally_now : Tally} {s now : State} (left other : Bytes) → left ≡ other
    → FillsSoFar told lines count version ns ns_now time time_now journal log tally tally_now left s now → FillsSoFar told lines count version ns ns_now time time_now journal log tally tally_now other s now
left_as {told} {lines} {count} {version} {ns} {ns_now} {time} {time_now} {journal} {log} {tally} {tally_now} {s} {now} left other same is =
    subst (λ (l : Bytes). FillsSoFar told lines count version ns ns_now time time_now journal log tally tally_now l s now) same is
