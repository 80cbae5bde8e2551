-- What a stop leaves is what the disk model allows.
use Rattle.std.proofs.Common.{◌≡◌, ◌≢◌, ◌⊎◌, inl, inr, ℕ, zero, suc, ◌≤◌, ◌<◌, ◌+◌, ◌-◌, ◌/◌, min, List, [], ◌∷◌, ◌++◌, length, take, get_or, Option, Some, None, refl, sym, ◌∙◌, ap, arith, length-append}
use Rattle.std.specs.Prelude.{Bool, true, false, ◌&&◌, ◌==◌, if◌then◌else◌, option_map, slice_get, slice_index}
use Rattle.std.specs.List.{list_all}
use Rattle.std.proofs.Math.Path.{fun_ext}
use Rattle.std.proofs.lemmas.Bool.Decides.{eqb_tells}
use Rattle.std.proofs.lemmas.List.{length-take, take_more, get_or-take}
use Rattle.nn_host.specs.Disk.{Held, Disk, File, Call, Look, MakeSub, MakeFile, Append, Sync, RenameFile, RenameSub, RemoveFile, RemoveSub, Settle, Leaves, LeavesFile, InFlight, carried_out}
use Rattle.nn_host.specs.Moments.{Dir, Moment, Event, Entry, On, Say, Stops}
use Rattle.nn_host.proofs.MakesLemmas.{removed_part}
use Rattle.nn_memhost.specs.declared.stop.Keep.{Keep}
use Rattle.nn_memhost.specs.declared.stop.Keep.TheVariants as keep
use Rattle.nn_memhost.specs.declared.past.Part.{Part}
use Rattle.nn_memhost.specs.declared.past.Part.TheVariants.{Nothing}
use Rattle.nn_memhost.specs.declared.past.Logged.{Logged}
use Rattle.nn_memhost.specs.declared.past.Request.{Request}
use Rattle.nn_memhost.specs.declared.past.Request.TheVariants as request
use Rattle.nn_memhost.specs.Asked.{call_of}
use Rattle.nn_memhost.specs.Content.{Content, file_of}
use Rattle.nn_memhost.specs.Held.{map_held, disk_of, reads_of, kept_left}
use Rattle.nn_memhost.specs.Part.{taken_of}
use Rattle.nn_memhost.specs.Past.{Past, moment_of, event_of, put_at, after, one, run}
use Rattle.nn_memhost.specs.Stop.{stays, left_by, in_flight, flown, moment_in, stopped_content}
use Rattle.nn_memhost.specs.Flight.{kept_flight, all_flight}
use Rattle.nn_memhost.proofs.PastLemmas.{run-push}
use Rattle.nn_memhost.proofs.FilesLemmas.{both}
use Rattle.nn_memhost.proofs.ViewLemmas.{view_disk, view_written}

-- what stays is no longer than what was written

turned_short : (b : Bool) (p : List ℕ) → (length p == 0) ≡ b → length (if b then [] else take (length p - 1) p ++ (255 - slice_index p (length p - 1)) ∷ []) ≤ length p
turned_short true p e = omega arith
turned_short false p e = elim (eqb_tells (length p) 0) [
  | inl none ↦ cc
  | inr some ↦ omega (arith, some.1, length-append (take (length p - 1) p) ((255 - slice_index p (length p - 1)) ∷ []), length-take (length p - 1) p)
]

stays_short : (keep : Keep) (p : List ℕ) → length (stays keep p) ≤ length p
stays_short keep.Synced p = omega arith
stays_short keep.Half p = omega (arith, length-take (length p / 2) p)
stays_short keep.All p = omega arith
stays_short keep.Torn p = turned_short (length p == 0) p refl

left_file : (keep : Keep) (f : Option File) → LeavesFile f (option_map (λ (x : File). x.synced ++ stays keep x.pending) f)
left_file keep None = tt
left_file keep (Some f) = record { tail = stays keep f.pending; split = refl; short = stays_short keep f.pending }

pub leaves_left : (keep : Keep) (d : Disk) → Leaves d (left_by keep d)
leaves_left keep d = record { root = refl; subs = λ s. refl; files = λ s n. left_file keep (d.file s n) }

-- the contents after a stop read as it leaves the disk

stopped_shown : (keep : Keep) (x : Option Content) → option_map (λ (c : Content). c.bytes) (option_map (stopped_content keep) x) ≡ option_map (λ (f : File). f.synced ++ stays keep f.pending) (option_map file_of x)
stopped_shown keep None = refl
stopped_shown keep (Some c) = refl

pub stopped_reads : (keep : Keep) (h : Held Content) → reads_of (map_held (stopped_content keep) h) ≡ left_by keep (disk_of h)
stopped_reads keep h = λ i. record { root = h.root; has = h.has; file = λ s n. stopped_shown keep (h.file s n) i }

-- the disk inside a call

part_if : (b : Bool) (x y : Held Content) (d e : Disk) → disk_of x ≡ d → disk_of y ≡ e → disk_of (if b then x else y) ≡ (if b then d else e)
part_if true x y d e p q = p
part_if false x y d e p q = q

same_if : (b : Bool) (d : Disk) → (if b then d else d) ≡ d
same_if true d = refl
same_if false d = refl

flight_disk : (done : Bool) (call : Call) (h : Held Content) → disk_of (kept_flight done call h) ≡ in_flight done call (disk_of h)
flight_disk done Look h = refl
flight_disk done (Sync s n) h = refl
flight_disk done Settle h = refl
flight_disk done (Append s n bytes) h = part_if done _ _ _ _ (view_disk (Append s n bytes) h) (view_written (taken_of (Some Nothing) bytes) s n bytes h) ∙ same_if done (carried_out (Append s n bytes) (disk_of h))
flight_disk done (MakeSub s) h = part_if done _ _ _ _ (view_disk (MakeSub s) h) refl
flight_disk done (MakeFile s n) h = part_if done _ _ _ _ (view_disk (MakeFile s n) h) refl
flight_disk done (RenameFile s a b) h = part_if done _ _ _ _ (view_disk (RenameFile s a b) h) refl
flight_disk done (RenameSub a b) h = part_if done _ _ _ _ (view_disk (RenameSub a b) h) refl
flight_disk done (RemoveFile s n) h = part_if done _ _ _ _ (view_disk (RemoveFile s n) h) refl
flight_disk done (RemoveSub s) h = part_if done _ _ _ _ (view_disk (RemoveSub s) h) refl

held_if : (b : Bool) (x y : Held Content) → disk_of (if b then x else y) ≡ (if b then disk_of x else disk_of y)
held_if true x y = refl
held_if false x y = refl

pub all_flown : (done : Bool) (r : Request) (kept : ℕ → Held Content) (j : ℕ) → disk_of (all_flight done r kept j) ≡ flown done (event_of r) j (disk_of (kept j))
all_flown done (request.Say bytes) kept j = refl
all_flown done (request.On i asked) kept j = elim (eqb_tells j i.0) [
  | inl same ↦ rw same.0 (flight_disk done (call_of asked) (kept i.0) ∙ ap (λ (k : ℕ). in_flight done (call_of asked) (disk_of (kept k))) (sym same.1))
  | inr other ↦ rw other.0
]

-- that moment is inside the call

flown_same : (i : ℕ) (call : Call) (done : Bool) (before : Moment) → ((d : Disk) → in_flight done call d ≡ d) → (record before { dirs = λ j. record { disk = flown done (On i call) j (before.dirs j).disk; faults = (before.dirs j).faults } }) ≡ before
flown_same i call done before same = λ k. record before { dirs = λ j. record { disk = at j (before.dirs j).disk k; faults = (before.dirs j).faults } }
  where
    at : (j : ℕ) (d : Disk) → flown done (On i call) j d ≡ d
    at j d = ap (λ (x : Disk). if j == i then x else d) (same d) ∙ same_if (j == i) d

flown_there : (i : ℕ) (call : Call) (done : Bool) (before : Moment) → ((d : Disk) → InFlight call d (in_flight done call d)) → Stops (On i call) before (record before { dirs = λ j. record { disk = flown done (On i call) j (before.dirs j).disk; faults = (before.dirs j).faults } })
flown_there i call done before flying = (record { dirs = others; said = refl; out_faults = refl }, here, refl)
  where
    others : (j : ℕ) → j ≢ i → ◌≡◌ {A = Dir} (record { disk = flown done (On i call) j (before.dirs j).disk; faults = (before.dirs j).faults }) (before.dirs j)
    others j ne = elim (eqb_tells j i) [ inl same ↦ absurd (ne same.1) | inr other ↦ rw other.0 ]

    here : InFlight call (before.dirs i).disk (flown done (On i call) i (before.dirs i).disk)
    here = elim (eqb_tells i i) [ inl same ↦ rw same.0 (flying (before.dirs i).disk) | inr other ↦ absurd (other.1 refl) ]

inside_call : (i : ℕ) (call : Call) (done : Bool) (before : Moment)
    → ((record before { dirs = λ j. record { disk = flown done (On i call) j (before.dirs j).disk; faults = (before.dirs j).faults } }) ≡ before) ⊎ Stops (On i call) before (record before { dirs = λ j. record { disk = flown done (On i call) j (before.dirs j).disk; faults = (before.dirs j).faults } })
inside_call i Look done before = inl (flown_same i Look done before (λ d. refl))
inside_call i (Sync s n) done before = inl (flown_same i (Sync s n) done before (λ d. refl))
inside_call i Settle done before = inl (flown_same i Settle done before (λ d. refl))
inside_call i (Append s n bytes) done before = inr (flown_there i (Append s n bytes) done before (λ d. refl))
inside_call i (MakeSub s) true before = inr (flown_there i (MakeSub s) true before (λ d. refl))
inside_call i (MakeSub s) false before = inl (flown_same i (MakeSub s) false before (λ d. refl))
inside_call i (MakeFile s n) true before = inr (flown_there i (MakeFile s n) true before (λ d. refl))
inside_call i (MakeFile s n) false before = inl (flown_same i (MakeFile s n) false before (λ d. refl))
inside_call i (RenameFile s a b) true before = inr (flown_there i (RenameFile s a b) true before (λ d. refl))
inside_call i (RenameFile s a b) false before = inl (flown_same i (RenameFile s a b) false before (λ d. refl))
inside_call i (RenameSub a b) true before = inr (flown_there i (RenameSub a b) true before (λ d. refl))
inside_call i (RenameSub a b) false before = inl (flown_same i (RenameSub a b) false before (λ d. refl))
inside_call i (RemoveFile s n) true before = inr (flown_there i (RemoveFile s n) true before (λ d. refl))
inside_call i (RemoveFile s n) false before = inl (flown_same i (RemoveFile s n) false before (λ d. refl))
inside_call i (RemoveSub s) true before = inr (flown_there i (RemoveSub s) true before (λ d. removed_part s d))
inside_call i (RemoveSub s) false before = inl (flown_same i (RemoveSub s) false before (λ d. refl))

pub inside_entry : (done : Bool) (e : Entry) → (moment_in done e ≡ e.before) ⊎ Stops e.event e.before (moment_in done e)
inside_entry done e = go e.event e.before
  where
    go : (event : Event) (before : Moment) → ((record before { dirs = λ j. record { disk = flown done event j (before.dirs j).disk; faults = (before.dirs j).faults } }) ≡ before) ⊎ Stops event before (record before { dirs = λ j. record { disk = flown done event j (before.dirs j).disk; faults = (before.dirs j).faults } })
    go (On i call) before = inside_call i call done before
    go (Say bytes) before = inl refl

-- the entry of a call in the record

get_append : {A : Type 0} (xs : List A) (y : A) (j : ℕ) → j < length xs → slice_get (xs ++ y ∷ []) j ≡ slice_get xs j
get_append [] y j lt = absurd (omega arith)
get_append (x ∷ xs) y zero lt = refl
get_append (x ∷ xs) y (suc j) lt = get_append xs y j (omega arith)

get_last : {A : Type 0} (xs : List A) (y : A) → slice_get (xs ++ y ∷ []) (length xs) ≡ Some y
get_last [] y = refl
get_last (x ∷ xs) y = get_last xs y

trace_front : (p : Past) (es : List Logged) (j : ℕ) → j < length p.trace → slice_get (run p es).trace j ≡ slice_get p.trace j
trace_front p [] j lt = refl
trace_front p (e ∷ es) j lt =
    trace_front (one p e) es j (omega (arith, lt, length-append p.trace (record { ended = p.ended; before = moment_of p.now e.before; event = event_of e.request } ∷ [])))
    ∙ get_append p.trace (record { ended = p.ended; before = moment_of p.now e.before; event = event_of e.request }) j lt

trace_at : (p : Past) (es : List Logged) (k : ℕ) (e : Logged) → k < length es → e ≡ get_or es k e → slice_get (run p es).trace (length p.trace + k) ≡ Some (record { ended = (run p (take k es)).ended; before = moment_of (run p (take k es)).now e.before; event = event_of e.request })
trace_at p [] k e lt is = absurd (omega arith)
trace_at p (x ∷ es) zero e lt is =
    let l : length p.trace + 0 ≡ length p.trace = omega arith in
    ap (λ (j : ℕ). slice_get (run (one p x) es).trace j) l
    ∙ trace_front (one p x) es (length p.trace) (omega (arith, length-append p.trace (record { ended = p.ended; before = moment_of p.now x.before; event = event_of x.request } ∷ [])))
    ∙ get_last p.trace (record { ended = p.ended; before = moment_of p.now x.before; event = event_of x.request })
    ∙ ap (λ (y : Logged). Some (record { ended = p.ended; before = moment_of p.now y.before; event = event_of y.request })) (sym is)
trace_at p (x ∷ es) (suc k) e lt is =
    let l : length p.trace + suc k ≡ length (one p x).trace + k = omega (arith, length-append p.trace (record { ended = p.ended; before = moment_of p.now x.before; event = event_of x.request } ∷ [])) in
    ap (λ (j : ℕ). slice_get (run (one p x) es).trace j) l ∙ trace_at (one p x) es k e (omega arith) is

-- the k-th entry of a record that begins here
pub entry_at : (p : Past) (es : List Logged) (k : ℕ) (e : Logged) → p.trace ≡ [] → k < length es → e ≡ get_or es k e → slice_get (run p es).trace k ≡ Some (record { ended = (run p (take k es)).ended; before = moment_of (run p (take k es)).now e.before; event = event_of e.request })
entry_at p es k e none lt is =
    let l : k ≡ length p.trace + k = omega (arith, ap length none) in
    ap (λ (j : ℕ). slice_get (run p es).trace j) l ∙ trace_at p es k e lt is

-- one call more of the record
pub run-take_more : (p : Past) (es : List Logged) (k : ℕ) (e : Logged) → k < length es → e ≡ get_or es k e → one (run p (take k es)) e ≡ run p (take (k + 1) es)
run-take_more p es k e lt is = sym (run-push p (take k es) e) ∙ ap (λ (l : List Logged). run p l) (ap (λ (x : Logged). take k es ++ x ∷ []) is ∙ sym (take_more es k e lt))

-- tests of all calls

and_true : (a b : Bool) → a ≡ true → b ≡ true → (a && b) ≡ true
and_true a b p q = λ i. p i && q i

pub list_all-push : {A : Type 0} (p : A → Bool) (xs : List A) (y : A) → list_all p xs ≡ true → p y ≡ true → list_all p (xs ++ y ∷ []) ≡ true
list_all-push p [] y all is = and_true (p y) true is refl
list_all-push p (x ∷ xs) y all is =
    let b = both (p x) (list_all p xs) all in
    and_true (p x) (list_all p (xs ++ y ∷ [])) b.0 (list_all-push p xs y b.1 is)

pub list_all-at : {A : Type 0} (p : A → Bool) (xs : List A) (k : ℕ) (e : A) → list_all p xs ≡ true → k < length xs → e ≡ get_or xs k e → p e ≡ true
list_all-at p [] k e all lt is = absurd (omega arith)
list_all-at p (x ∷ xs) zero e all lt is = let b = both (p x) (list_all p xs) all in ap p is ∙ b.0
list_all-at p (x ∷ xs) (suc k) e all lt is = let b = both (p x) (list_all p xs) all in list_all-at p xs k e b.1 (omega arith) is

-- what a call makes of the contents hangs on them alone
pub after_kept : (r : Request) (failed : Option Part) (a b : ℕ → Held Content) (said said' : List ℕ) → ((j : ℕ) → a j ≡ b j) → (j : ℕ)
    → (after r failed (record { kept = a; said = said })).kept j ≡ (after r failed (record { kept = b; said = said' })).kept j
after_kept (request.On i asked) failed a b said said' same j = ap (λ (kept : ℕ → Held Content). put_at i.0 (kept_left failed (call_of asked) (kept i.0)) kept j) (fun_ext same)
after_kept (request.Say bytes) failed a b said said' same j = same j

-- one of the first k calls is one of all
pub among_first : (xs ys : List Logged) (k i : ℕ) (e : Logged) → xs ≡ ys → i < length (take k xs) → e ≡ get_or (take k xs) i e → (i < length ys) × (e ≡ get_or ys i e)
among_first xs ys k i e same lt is =
    let short : i < min k (length xs) = omega (arith, lt, length-take k xs) in
    let below : i < k = omega (arith, short) in
    (omega (arith, short, ap length same), is ∙ get_or-take k xs i e below ∙ ap (λ (l : List Logged). get_or l i e) same)
