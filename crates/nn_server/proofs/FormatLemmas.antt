-- From the answer of formatting to what the command has said and done.
use Rattle.std.proofs.Common.{◌≡◌, ◌≢◌, inl, inr, ⊎_elim, ℕ, ◌<◌, false, [], ◌++◌, drop, None, Result, Ok, Err, refl, sym, ◌∙◌, ap, subst}
use Rattle.std.proofs.lemmas.List.{append-nil, take-append-drop}
use Rattle.nn_base.specs.Paths.{Bytes}
use Rattle.nn_host.specs.Disk.{Disk, Reads, Leaves}
use Rattle.nn_host.specs.Moments.{Dir, State, IsLawful, disk_at}
use Rattle.nn_host.specs.Calls.{Spoke}
use Rattle.nn_host.specs.Runs.{Unspoken, SameCounts}
use Rattle.nn_host.proofs.RunsLemmas.{throughout_refl, throughout_weaker, out_whole_unspoken, out_whole_trans, out_spoke}
use Rattle.nn_host.proofs.WorkLemmas.{each_dir_said}
use Rattle.nn_host.proofs.LeftLemmas.{each_since}
use Rattle.nn_marks.specs.declared.version.Version.{Version}
use Rattle.nn_state.specs.Typed.{FitsFresh}
use Rattle.nn_pick.specs.declared.fault.OpenFault.{OpenFault}
use Rattle.nn_pick.specs.declared.fault.OpenFault.TheVariants as fault
use Rattle.nn_pick.specs.declared.refusal.Refusal.{Refusal}
use Rattle.nn_pick.specs.Dirs.{EachChoice}
use Rattle.nn_pick.proofs.VersionLemmas.{SaysTheSame}
use Rattle.nn_open.specs.Formatted.{IsFormatted, ReadsFormatted, OpensEmpty, OpenEmptySoundly}
use Rattle.nn_open.specs.Answers.{AllFresh, AllFormatted, EachFreshOrNew, EachAsBefore, IsRefused, IsCountedBy, first_unformattable}
use Rattle.nn_open.proofs.LeftLemmas.{fresh_left, left_fresh, formatted_left}
use Rattle.nn_open.proofs.OpeningLemmas.{formatted_opens, choices_open}
use Rattle.nn_server.specs.declared.status.Status.TheVariants as status
use Rattle.nn_server.specs.declared.format_run.FormatEnd.{FormatEnd}
use Rattle.nn_server.specs.declared.format_run.FormatEnd.TheVariants.{Done, OutFault}
use Rattle.nn_server.specs.declared.format_run.FormatEnd.TheVariants as end
use Rattle.nn_server.specs.Lines.{formatted_line}
use Rattle.nn_server.specs.Came.{is_out_fault, CameTo, Counts}
use Rattle.nn_server.specs.Format.{IsNewVersion, FreshOrAsked, EachFreshOrAsked, LeftFreshOrAsked, StopsFreshOrAsked, FormatDid, FormatRan, format_status, format_failed, unformatted}
use Rattle.nn_server.proofs.CameLemmas.{said_since, speaks_whole, speaks_cut, cut_since}

-- ---- after a stop

-- what a stop leaves of a disk that is not formatted or has the new namespace
fresh_or_asked_left : (cluster : Bytes) (namespace : ℕ) (d : Disk) (c : Reads) → Leaves d c → FreshOrAsked cluster namespace d → LeftFreshOrAsked cluster namespace c
fresh_or_asked_left cluster namespace d c leaves is = ⊎_elim
    (λ (fresh : FitsFresh d). inl (fresh_left d c leaves fresh))
    (λ new. let left = formatted_left d c leaves new.0 new.2 in inr (new.0, new.1, left, formatted_opens new.0 new.1.layout c left))
    is

-- two VERSIONs that are asked for so say the same
one_new : (cluster : Bytes) (namespace : ℕ) (v w : Version) → IsNewVersion cluster namespace v → IsNewVersion cluster namespace w → SaysTheSame v w
one_new cluster namespace v w p q = record {
  namespace = p.namespace ∙ sym q.namespace;
  cluster = p.cluster ∙ sym q.cluster;
  ctime = p.ctime ∙ sym q.ctime;
  blockpool = p.blockpool ∙ sym q.blockpool;
  layout = p.layout ∙ sym q.layout;
}

-- what a stop leaves since the beginning of a run
pub asked_left : {told : Type 0} {cluster : Bytes} {namespace : ℕ} {a b : State} → told → IsLawful a → AllFresh a → EachFreshOrAsked told cluster namespace a b → StopsFreshOrAsked cluster namespace a b
asked_left {told} {cluster} {namespace} {a} {b} tells lawful fresh run contents m left = record {
  each = each;
  choices = choices_open (IsNewVersion cluster namespace) (λ v is. is.layout) (one_new cluster namespace) a.count contents
      (λ i below. ⊎_elim (λ still. inl still) (λ new. inr (new.0, new.1, new.2)) (each i below));
}
  where
    each : (i : ℕ) → i < a.count → LeftFreshOrAsked cluster namespace (contents i)
    each i below = fresh_or_asked_left cluster namespace (m.dirs i).disk (contents i) (left.leaves i)
        (each_since (λ (j : ℕ) (d : Disk). j < a.count → FreshOrAsked cluster namespace d) tells lawful
        (λ j inside. inl (left_fresh (disk_at a j) (a.reads j) (lawful.reads j) (fresh j inside))) run m left.since i below)

-- ---- what holds while directories are formatted, whatever the answer

pub record Formatting (told : Type 0) (cluster : Bytes) (namespace : ℕ) (a b : State) : Type 0 where
  pub each : told → AllFresh a → EachFreshOrAsked told cluster namespace a b
  pub as_before : first_unformattable a.reads a.count ≢ None → EachAsBefore told a b

-- nothing was done yet
pub unbegun : {told : Type 0} {a : State} (cluster : Bytes) (namespace : ℕ) → (told → IsLawful a) → Formatting told cluster namespace a a
unbegun {told} {a} cluster namespace lawful = record {
  each = λ t fresh. throughout_refl (λ tells. record { at = λ i below. inl (left_fresh (disk_at a i) (a.reads i) ((lawful tells).reads i) (fresh i below)) });
  as_before = λ some. throughout_refl (λ tells. record { at = λ j. inl refl });
}

-- directories were formatted under a VERSION that is asked for
pub begun : {told : Type 0} {cluster : Bytes} {namespace : ℕ} {a b : State} (version : Version) → IsNewVersion cluster namespace version → (AllFresh a → EachFreshOrNew told version a b)
    → (first_unformattable a.reads a.count ≢ None → EachAsBefore told a b) → Formatting told cluster namespace a b
begun version is each as_before = record {
  each = λ t fresh. throughout_weaker (each fresh) (λ tells m dirs. record { at = λ i below. ⊎_elim (λ still. inl still) (λ new. inr (version, is, new)) (dirs.at i below) });
  as_before = as_before;
}

formatting_said : {T E told : Type 0} {cluster bytes : Bytes} {namespace : ℕ} {a b c : State} {result : Result T E} → Formatting told cluster namespace a b → Spoke told bytes b c result → Formatting told cluster namespace a c
formatting_said f spoke = record { each = λ tells fresh. each_dir_said (f.each tells fresh) spoke; as_before = λ some. each_dir_said (f.as_before some) spoke }

-- ---- each end

-- nothing was said
pub format_unsaid : {told : Type 0} {cluster : Bytes} {namespace : ℕ} {a b : State} (end : FormatEnd) → is_out_fault (format_status end) ≡ false → (told → IsLawful a) → Formatting told cluster namespace a b
    → Unspoken told a b → (told → FormatDid cluster namespace a b [] end) → Counts (format_failed end) a b → CameTo told a b format_status (λ lines trace. FormatRan told cluster namespace a b lines) end
format_unsaid {a = a} end unfailed lawful f quiet did counted = record {
  lines = [];
  speaks = speaks_whole (format_status end) unfailed (out_whole_unspoken quiet) quiet.now.out_faults (λ tells. quiet.now.said ∙ sym (append-nil a.now.said));
  ran = record {
    did = did;
    each_moment = f.each;
    any_stop = λ tells fresh. asked_left tells (lawful tells) fresh (f.each tells fresh);
    as_before = f.as_before;
    counted = counted;
  };
}

-- formatting failed
unformatted_so : {told : Type 0} {cluster : Bytes} {namespace : ℕ} {a b : State} (why : OpenFault) → (told → IsLawful a) → Formatting told cluster namespace a b → Unspoken told a b
    → (told → (refusal : Refusal) → why ≡ fault.Refused refusal → IsRefused refusal a b) → IsCountedBy a b (Err why) → CameTo told a b format_status (λ lines trace. FormatRan told cluster namespace a b lines) (unformatted why)
unformatted_so (fault.Refused refusal) lawful f quiet refused counted = format_unsaid (end.Refused refusal) refl lawful f quiet (λ tells. (refused tells refusal refl, refl)) counted
unformatted_so (fault.Failed i) lawful f quiet refused counted = format_unsaid (end.HostFault i) refl lawful f quiet (λ tells. refl) counted
unformatted_so fault.Memory lawful f quiet refused counted = format_unsaid end.Memory refl lawful f quiet (λ tells. refl) counted

pub format_refused : {told : Type 0} {cluster : Bytes} {namespace : ℕ} {a b : State} (why : OpenFault) (result : FormatEnd) → result ≡ unformatted why → (told → IsLawful a) → Formatting told cluster namespace a b → Unspoken told a b
    → (told → (refusal : Refusal) → why ≡ fault.Refused refusal → IsRefused refusal a b) → IsCountedBy a b (Err why) → CameTo told a b format_status (λ lines trace. FormatRan told cluster namespace a b lines) result
format_refused {told} {cluster} {namespace} {a} {b} why result is lawful f quiet refused counted =
    subst (λ (e : FormatEnd). CameTo told a b format_status (λ lines trace. FormatRan told cluster namespace a b lines) e) (sym is) (unformatted_so why lawful f quiet refused counted)

-- what is said after it changes no directory
formatted_said : {T E told : Type 0} {bytes : Bytes} {a b c : State} {result : Result T E} (version : Version) → AllFormatted version a b → Spoke told bytes b c result → AllFormatted version a c
formatted_said {a = a} version formatted spoke = record {
  unrefused = formatted.unrefused;
  reads = λ i below. subst (λ (r : ℕ → Reads). ReadsFormatted version (r i)) (sym spoke.reads) (formatted.reads i below);
  disks = λ i below. subst (λ (dirs : ℕ → Dir). IsFormatted version (dirs i).disk) (sym spoke.dirs) (formatted.disks i below);
  opens = λ i below. subst (λ (r : ℕ → Reads). OpensEmpty (r i)) (sym spoke.reads) (formatted.opens i below);
  choices = subst (λ (r : ℕ → Reads). EachChoice a.count r (λ dirs. 0 < dirs.count → OpenEmptySoundly dirs)) (sym spoke.reads) formatted.choices;
}

counts_said : {T E told : Type 0} {bytes : Bytes} {a b c : State} {result : Result T E} → SameCounts a b → Spoke told bytes b c result → SameCounts a c
counts_said counts spoke = record { faults = λ j. ap (λ (dirs : ℕ → Dir). (dirs j).faults) spoke.dirs ∙ counts.faults j }

-- the number of directories was said
pub format_done : {T E told : Type 0} {cluster line : Bytes} {namespace : ℕ} {a b c : State} {v : T} (version : Version) → IsNewVersion cluster namespace version → (told → IsLawful a)
    → Formatting told cluster namespace a b → Unspoken told a b → (told → AllFormatted version a b) → SameCounts a b → line ≡ formatted_line b.count → Spoke {T = T} {E = E} told line b c (Ok v)
    → CameTo told a c format_status (λ lines trace. FormatRan told cluster namespace a c lines) Done
format_done {T} {E} {told} {cluster} {line} {namespace} {a} {b} {c} version is lawful f quiet formatted counts count spoke = record {
  lines = formatted_line a.count;
  speaks = speaks_whole status.Ok refl (out_whole_trans (out_whole_unspoken quiet) (out_spoke spoke)) (spoke.counted_ok ∙ quiet.now.out_faults) (λ tells. (spoke.ok tells).said ∙ (λ k. quiet.now.said k ++ (count ∙ ap formatted_line quiet.each.count) k));
  ran = record {
    did = λ tells. ((version, is, formatted_said version (formatted tells) spoke), refl);
    each_moment = g.each;
    any_stop = λ tells fresh. asked_left tells (lawful tells) fresh (g.each tells fresh);
    as_before = g.as_before;
    counted = counts_said counts spoke;
  };
}
  where
    g : Formatting told cluster namespace a c
    g = formatting_said f spoke

-- the output failed over it
pub format_cut : {T E told : Type 0} {cluster line : Bytes} {namespace : ℕ} {a b c : State} {e : E} (version : Version) → IsNewVersion cluster namespace version → (told → IsLawful a)
    → Formatting told cluster namespace a b → Unspoken told a b → (told → AllFormatted version a b) → SameCounts a b → line ≡ formatted_line b.count → Spoke {T = T} {E = E} told line b c (Err e)
    → CameTo told a c format_status (λ lines trace. FormatRan told cluster namespace a c lines) OutFault
format_cut {T} {E} {told} {cluster} {line} {namespace} {a} {b} {c} version is lawful f quiet formatted counts count spoke = record {
  lines = said_since a c;
  speaks = speaks_cut [] (out_whole_unspoken quiet) quiet.now.out_faults before spoke;
  ran = record {
    did = λ tells.
        let cut = cut_since a [] before spoke tells in (
          (version, is, formatted_said version (formatted tells) spoke),
          (drop cut.0 line, ap formatted_line (sym quiet.each.count) ∙ sym count ∙ sym (take-append-drop cut.0 line) ∙ ap (λ (front : Bytes). front ++ drop cut.0 line) (sym cut.1)),
        );
    each_moment = g.each;
    any_stop = λ tells fresh. asked_left tells (lawful tells) fresh (g.each tells fresh);
    as_before = g.as_before;
    counted = counts_said counts spoke;
  };
}
  where
    g : Formatting told cluster namespace a c
    g = formatting_said f spoke

    before : told → b.now.said ≡ a.now.said ++ []
    before tells = quiet.now.said ∙ sym (append-nil a.now.said)
