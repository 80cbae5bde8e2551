-- A script that is said, file by file.
use Rattle.std.proofs.Common.{◌≡◌, ℕ, zero, suc, ◌+◌, ◌-◌, ◌≤◌, [], ◌++◌, refl, sym, ap, ◌∙◌, subst, append_assoc, arith}
use Rattle.std.proofs.lemmas.List.{append-nil}
use Rattle.nn_base.specs.Paths.{Bytes}
use Rattle.nn_host.specs.Moments.{State}
use Rattle.nn_generate.specs.Generated.{file_lines, script_of}
use Rattle.nn_say.specs.Saying.{CutOff, SaysAll, BreaksOff, pieces_of}
use Rattle.nn_say.proofs.SayingLemmas.{concat_pieces, says_nothing}
use Rattle.nn_generate.specs.declared.said.GenerateEnd.TheVariants as end
use Rattle.nn_server.specs.Came.{CameTo}
use Rattle.nn_generate.specs.Said.{generate_status, GenerateRan}
use Rattle.nn_server.proofs.CameLemmas.{said_since, since_is, speaks_whole, touches_none}

-- one file more
pub script_next : (k next : ℕ) → next ≡ suc k → script_of next ≡ script_of k ++ file_lines k
script_next k next is = ap script_of is

-- the script of some first files begins that of more
script_behind : (k more : ℕ) → (rest : Bytes) × (script_of (k + more) ≡ script_of k ++ rest)
script_behind k zero = let same : k + zero ≡ k = omega arith in ([], ap script_of same ∙ sym (append-nil (script_of k)))
script_behind k (suc more) =
    let front = script_behind k more in
    let next : k + suc more ≡ suc (k + more) = omega arith in
    (front.0 ++ file_lines (k + more), script_next (k + more) (k + suc more) next ∙ ap (λ x. x ++ file_lines (k + more)) front.1 ∙ append_assoc (script_of k) front.0 (file_lines (k + more)))

pub script_front : (k count : ℕ) → k ≤ count → (rest : Bytes) × (script_of count ≡ script_of k ++ rest)
script_front k count below =
    let front = script_behind k (count - k) in
    let same : count ≡ k + (count - k) = omega arith in
    (front.0, ap script_of same ∙ front.1)

-- ---- how a run ends

pub generate_done : {told : Type 0} {old new : State} (count : ℕ) → SaysAll told old new (pieces_of (script_of count)) → CameTo told old new generate_status (GenerateRan told count old new) end.Done
generate_done {old = old} count says = record {
  lines = script_of count;
  speaks = speaks_whole (generate_status end.Done) refl says.answered.out says.answered.out_faults (λ tells. says.said tells ∙ ap (λ x. old.now.said ++ x) (concat_pieces (script_of count)));
  ran = record {
    said = λ tells. (pieces_of (script_of count), says.calls tells, (refl, refl));
    dirs = touches_none says.answered;
  };
}

pub generate_unbegun : {told : Type 0} {old : State} (count : ℕ) → CameTo told old old generate_status (GenerateRan told count old old) end.Memory
generate_unbegun {told} {old = old} count =
    let says : SaysAll told old old [] = says_nothing in record {
      lines = [];
      speaks = speaks_whole (generate_status end.Memory) refl says.answered.out says.answered.out_faults says.said;
      ran = record {
        said = λ tells. ([], says.calls tells, (refl, refl));
        dirs = touches_none says.answered;
      };
    }

pub generate_cut : {told : Type 0} {old new : State} (count : ℕ) → BreaksOff told old new (pieces_of (script_of count)) → CameTo told old new generate_status (GenerateRan told count old new) end.OutFault
generate_cut {old = old} {new = new} count broken = record {
  lines = said_since old new;
  speaks = record {
    said = λ tells. let cut = broken.cut tells in cut.3 ∙ ap (λ x. old.now.said ++ x) (sym (since_is old new cut.0 cut.3));
    counted = broken.failed.out_faults;
    silent = broken.failed.silent;
    whole = λ is. cc;
  };
  ran = record {
    said = λ tells.
        let cut = broken.cut tells in
        (cut.1, cut.4, subst (λ (text : Bytes). CutOff (pieces_of (script_of count)) text cut.1) (sym (since_is old new cut.0 cut.3)) cut.2);
    dirs = record { kept = broken.failed.untouched; faults = broken.failed.faults; reads = broken.failed.reads };
  };
}
