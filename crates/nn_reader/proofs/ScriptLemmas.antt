-- A script that is read line by line, and how far it was read where that ends.
use Rattle.std.proofs.Common.{◌≡◌, ℕ, ◌+◌, ◌≤◌, List, [], ◌∷◌, ◌++◌, length, take, length-append, append_assoc, sym, ap, subst, ◌∙◌, refl, arith}
use Rattle.std.specs.Str.Lines.{strip_carriage_return}
use Rattle.std.proofs.lemmas.List.{append-nil, map-append, take_at}
use Rattle.nn_base.specs.Limits.{most_script}
use Rattle.nn_base.specs.Paths.{Bytes}
use Rattle.nn_host.specs.Calls.{next_count}
use Rattle.nn_script.specs.Lines.{lines_of, ended_lines}
use Rattle.nn_script.specs.Reading.{reading_of}
use Rattle.nn_reader.specs.declared.reader.Next.{Next}
use Rattle.nn_reader.specs.declared.reader.Next.TheVariants as next
use Rattle.nn_reader.specs.Reading.{most_kept}
use Rattle.nn_reader.specs.Reader.{EndedLine, LastLine, NoLine, PastBudget, Stopped, IsNextLine}
use Rattle.nn_reader.specs.Script.{AtEnd, TooLong, SourceFailed, OnTheWay, due_lines, ScriptRead}
use Rattle.nn_reader.proofs.LinesLemmas.{Ended, stripped, ended_nothing, ended_more, lines_done, ended_done, ended_unended, lines_unended, due_short, due_first}
use Rattle.nn_reader.proofs.LongLemmas.{front_reads_alike, stripped_reads_alike}

-- ---- so far

-- these lines of the script were read whole, and so much is to come
pub record SoFar (told : Type 0) (script rest : Bytes) (budget : ℕ) (lines : List Bytes) : Type 0 where
  pub done : Bytes
  pub parts : List Bytes
  pub ended : Ended done parts
  pub are : lines ≡ stripped parts
  pub bytes : told → script ≡ done ++ rest
  pub within : length done + budget ≡ most_script

pub so_far_nothing : {told : Type 0} (script ahead : Bytes) (budget : ℕ) → ahead ≡ [] → budget ≡ most_script → SoFar told script (ahead ++ script) budget []
so_far_nothing script ahead budget none whole = record {
  done = [];
  parts = [];
  ended = ended_nothing;
  are = refl;
  bytes = λ tells. ap (λ x. x ++ script) (sym none);
  within = omega (arith, whole);
}

-- nothing was taken
pub unread : {told : Type 0} (script : Bytes) (count : ℕ) → ScriptRead told script script count count OnTheWay []
unread script count = record { taken = []; fits = omega arith; lines_are = (due_lines [], refl); of_script = λ reads. record { split = refl; rest = tt; lines_are = (due_lines script, refl) }; counted = refl }

-- ---- what was read

pub line_read_so : {told : Type 0} {before after line again : Bytes} {budget budget_after : ℕ} (read : Next) → read ≡ next.Line → again ≡ line → IsNextLine told read before after budget budget_after line
    → EndedLine told before after budget budget_after again
line_read_so {told} {before} {after} {line} {again} {budget} {budget_after} read is same e =
    subst (λ (x : Bytes). EndedLine told before after budget budget_after x) (sym same) (subst (λ (x : Next). IsNextLine told x before after budget budget_after line) is e)

pub last_read_so : {told : Type 0} {before after line again : Bytes} {budget budget_after : ℕ} (read : Next) → read ≡ next.Last → again ≡ line → IsNextLine told read before after budget budget_after line
    → LastLine told before after budget budget_after again
last_read_so {told} {before} {after} {line} {again} {budget} {budget_after} read is same e =
    subst (λ (x : Bytes). LastLine told before after budget budget_after x) (sym same) (subst (λ (x : Next). IsNextLine told x before after budget budget_after line) is e)

pub none_read_so : {told : Type 0} {before after : Bytes} (budget budget_after : ℕ) (line : Bytes) (read : Next) → read ≡ next.End → IsNextLine told read before after budget budget_after line → NoLine told before after
none_read_so {told} {before} {after} budget budget_after line read is e = subst (λ (x : Next). IsNextLine told x before after budget budget_after line) is e

pub past_read_so : {told : Type 0} {before after : Bytes} {budget : ℕ} (budget_after : ℕ) (line : Bytes) (read : Next) → read ≡ next.TooLong → IsNextLine told read before after budget budget_after line → PastBudget told before after budget
past_read_so {told} {before} {after} {budget} budget_after line read is e = subst (λ (x : Next). IsNextLine told x before after budget budget_after line) is e

-- ---- one line more

-- the line of the script that was read, which reads as what was kept of it; and how far the script was read with it
pub record NextLine (told : Type 0) (script left : Bytes) (lines : List Bytes) (line : Bytes) : Type 0 where
  pub whole : Bytes
  pub alike : reading_of line ≡ reading_of whole
  pub read : (count after : ℕ) → after ≡ count → ScriptRead told script left count after OnTheWay (lines ++ whole ∷ [])

no_more : (ahead left : Bytes) → ahead ++ left ≡ [] → left ≡ []
no_more [] left e = e
no_more (byte ∷ ahead) left e = absurd (omega (arith, ap length e))

-- a line that ended
pub line_next : {told : Type 0} {script rest : Bytes} {budget : ℕ} {lines : List Bytes} {line : Bytes} (ahead left : Bytes) (room : ℕ)
    → SoFar told script rest budget lines → EndedLine told rest (ahead ++ left) budget (length ahead + room) line → NextLine told script left lines line
line_next {told = told} {script} {lines = lines} {line = line} ahead left room so_far read = record {
  whole = strip_carriage_return read.body;
  alike = ap reading_of read.is ∙ stripped_reads_alike most_kept read.body (omega arith);
  read = λ count after same. record {
    taken = front ++ ahead;
    fits = few;
    lines_are = first (front ++ ahead) ahead refl;
    of_script = λ reads. record { split = is reads ∙ sym (append_assoc front ahead left); rest = tt; lines_are = first script (ahead ++ left) (is reads) };
    counted = same;
  };
}
  where
    front : Bytes
    front = so_far.done ++ (read.body ++ 10 ∷ [])

    is : told → script ≡ (so_far.done ++ (read.body ++ 10 ∷ [])) ++ (ahead ++ left)
    is reads = so_far.bytes reads ∙ ap (λ x. so_far.done ++ x) (read.bytes reads ∙ sym (append_assoc read.body (10 ∷ []) (ahead ++ left))) ∙ sym (append_assoc so_far.done (read.body ++ 10 ∷ []) (ahead ++ left))

    few : length ((so_far.done ++ (read.body ++ 10 ∷ [])) ++ ahead) ≤ most_script
    few = omega (arith, so_far.within, read.budget, length-append so_far.done (read.body ++ 10 ∷ []), length-append read.body (10 ∷ []), length-append (so_far.done ++ (read.body ++ 10 ∷ [])) ahead)

    first : (bytes rest : Bytes) → bytes ≡ (so_far.done ++ (read.body ++ 10 ∷ [])) ++ rest → (later : List Bytes) × (due_lines bytes ≡ (lines ++ strip_carriage_return read.body ∷ []) ++ later)
    first bytes rest e =
        let due = due_first bytes rest (ended_more read.body so_far.ended read.unended) e (omega (arith, few, length-append (so_far.done ++ (read.body ++ 10 ∷ [])) ahead)) in
        (due.0, due.1 ∙ ap (λ x. x ++ due.0) (map-append strip_carriage_return so_far.parts (read.body ∷ []) ∙ ap (λ x. x ++ strip_carriage_return read.body ∷ []) (sym so_far.are)))

pub so_far_more : {told : Type 0} {script rest : Bytes} {budget : ℕ} {lines : List Bytes} {line : Bytes} (ahead left : Bytes) (room : ℕ) (so_far : SoFar told script rest budget lines)
    (read : EndedLine told rest (ahead ++ left) budget (length ahead + room) line) → SoFar told script (ahead ++ left) (length ahead + room) (lines ++ (line_next ahead left room so_far read).whole ∷ [])
unfolding line_next
so_far_more ahead left room so_far read = record {
  done = so_far.done ++ (read.body ++ 10 ∷ []);
  parts = so_far.parts ++ read.body ∷ [];
  ended = ended_more read.body so_far.ended read.unended;
  are = ap (λ x. x ++ strip_carriage_return read.body ∷ []) so_far.are ∙ sym (map-append strip_carriage_return so_far.parts (read.body ∷ []));
  bytes = λ tells. so_far.bytes tells ∙ ap (λ x. so_far.done ++ x) (read.bytes tells ∙ sym (append_assoc read.body (10 ∷ []) (ahead ++ left))) ∙ sym (append_assoc so_far.done (read.body ++ 10 ∷ []) (ahead ++ left));
  within = omega (arith, so_far.within, read.budget, length-append so_far.done (read.body ++ 10 ∷ []), length-append read.body (10 ∷ []));
}

-- ---- how it ends

-- what was read to its end was read on the way
pub on_the_way : {told : Type 0} {script left : Bytes} {count after : ℕ} {lines : List Bytes} → ScriptRead told script left count after AtEnd lines → ScriptRead told script left count after OnTheWay lines
on_the_way {script = script} {lines = lines} read = record {
  taken = read.taken;
  fits = read.fits;
  lines_are = ([], due_short read.taken read.fits ∙ sym read.lines_are ∙ sym (append-nil lines));
  of_script = λ tells.
      let of = read.of_script tells in
      let all : script ≡ read.taken = of.split ∙ ap (λ x. read.taken ++ x) of.rest ∙ append-nil read.taken in
      record { split = of.split; rest = tt; lines_are = ([], ap due_lines all ∙ due_short read.taken read.fits ∙ sym read.lines_are ∙ sym (append-nil lines)) };
  counted = read.counted;
}

-- its last line was read
last_read : {told : Type 0} {script rest : Bytes} {budget budget_after : ℕ} {lines : List Bytes} {line : Bytes} (ahead left : Bytes) (so_far : SoFar told script rest budget lines)
    (last : LastLine told rest (ahead ++ left) budget budget_after line) (count after : ℕ) → after ≡ count → ScriptRead told script left count after AtEnd (lines ++ last.body ∷ [])
last_read {told} {script} {lines = lines} ahead left so_far last count after same = record {
  taken = taken;
  fits = omega (arith, length-append so_far.done last.body, so_far.within, last.budget);
  lines_are = read;
  of_script = λ reads. record { split = is reads ∙ sym (append-nil taken) ∙ ap (λ x. taken ++ x) (sym (none reads)); rest = none reads; lines_are = read ∙ ap lines_of (sym (is reads)) };
  counted = same;
}
  where
    taken : Bytes
    taken = so_far.done ++ last.body

    read : lines ++ last.body ∷ [] ≡ lines_of (so_far.done ++ last.body)
    read = ap (λ x. x ++ last.body ∷ []) so_far.are ∙ sym (lines_done last.body so_far.ended ∙ ap (λ x. stripped so_far.parts ++ x) (lines_unended last.body last.unended last.some))

    none : told → left ≡ []
    none reads = no_more ahead left (last.none reads)

    is : told → script ≡ so_far.done ++ last.body
    is reads = so_far.bytes reads ∙ ap (λ x. so_far.done ++ x) (last.bytes reads)

-- that line is the next one, and how far the script was read with it
pub record LastNext (told : Type 0) (script left : Bytes) (lines : List Bytes) (line : Bytes) : Type 0 where
  pub next : NextLine told script left lines line
  pub read : (count after : ℕ) → after ≡ count → ScriptRead told script left count after AtEnd (lines ++ next.whole ∷ [])

pub last_next : {told : Type 0} {script rest : Bytes} {budget budget_after : ℕ} {lines : List Bytes} {line : Bytes} (ahead left : Bytes)
    → SoFar told script rest budget lines → LastLine told rest (ahead ++ left) budget budget_after line → LastNext told script left lines line
last_next ahead left so_far last = record {
  next = record {
    whole = last.body;
    alike = ap reading_of last.is ∙ front_reads_alike most_kept last.body (omega arith);
    read = λ count after same. on_the_way (last_read ahead left so_far last count after same);
  };
  read = λ count after same. last_read ahead left so_far last count after same;
}

-- it was at its end
pub none_read : {told : Type 0} {script rest : Bytes} {budget : ℕ} {lines : List Bytes} (ahead left : Bytes) → SoFar told script rest budget lines → NoLine told rest (ahead ++ left)
    → (count after : ℕ) → after ≡ count → ScriptRead told script left count after AtEnd lines
none_read {told} {script} {lines = lines} ahead left so_far none count after same = record {
  taken = so_far.done;
  fits = omega (arith, so_far.within);
  lines_are = sym (all so_far.done (sym (append-nil so_far.done)));
  of_script = λ reads. record { split = is reads ∙ ap (λ x. so_far.done ++ x) (sym (at_end reads)); rest = at_end reads; lines_are = sym (all script (is reads)) };
  counted = same;
}
  where
    at_end : told → left ≡ []
    at_end reads = no_more ahead left (none.none reads)

    is : told → script ≡ so_far.done ++ []
    is reads = so_far.bytes reads ∙ ap (λ x. so_far.done ++ x) (none.bytes reads)

    all : (bytes : Bytes) → bytes ≡ so_far.done ++ [] → lines_of bytes ≡ lines
    all bytes e = ap lines_of e ∙ lines_done [] so_far.ended ∙ append-nil (stripped so_far.parts) ∙ sym so_far.are

-- it has more bytes than it may have
pub past_read : {told : Type 0} {script rest : Bytes} {budget : ℕ} {lines : List Bytes} (ahead left : Bytes) → SoFar told script rest budget lines → PastBudget told rest (ahead ++ left) budget → ahead ≡ []
    → (count after : ℕ) → after ≡ count → ScriptRead told script left count after TooLong lines
past_read {told} {script} {lines = lines} ahead left so_far past none count after same = record {
  taken = front ++ past.byte ∷ [];
  fits = omega (arith, len, length-append front (past.byte ∷ []));
  lines_are = sym (all (front ++ past.byte ∷ []) (past.byte ∷ []) refl);
  of_script = λ reads. record { split = is reads ∙ sym (append_assoc front (past.byte ∷ []) left); rest = tt; lines_are = sym (all script (past.byte ∷ left) (is reads)) };
  counted = same;
}
  where
    front : Bytes
    front = so_far.done ++ past.body

    len : length (so_far.done ++ past.body) ≡ most_script
    len = omega (arith, length-append so_far.done past.body, so_far.within, past.whole)

    is : told → script ≡ (so_far.done ++ past.body) ++ past.byte ∷ left
    is reads = so_far.bytes reads ∙ ap (λ x. so_far.done ++ x) (past.bytes reads ∙ ap (λ x. past.body ++ past.byte ∷ (x ++ left)) none) ∙ sym (append_assoc so_far.done past.body (past.byte ∷ left))

    all : (bytes more : Bytes) → bytes ≡ (so_far.done ++ past.body) ++ more → ended_lines (take most_script bytes) ≡ lines
    all bytes more e = ap (λ x. ended_lines (take most_script x)) e ∙ ap ended_lines (take_at (so_far.done ++ past.body) more most_script len)
        ∙ ended_done past.body so_far.ended ∙ ap (λ x. stripped so_far.parts ++ x) (ended_unended past.body past.unended) ∙ append-nil (stripped so_far.parts) ∙ sym so_far.are

-- the source failed
pub failed_read : {told : Type 0} {script rest : Bytes} {budget : ℕ} {lines : List Bytes} (left : Bytes) → SoFar told script rest budget lines → Stopped told rest left budget
    → (count after : ℕ) → after ≡ next_count count → ScriptRead told script left count after SourceFailed lines
failed_read {told} {script} {lines = lines} left so_far stopped count after rose = record {
  taken = so_far.done ++ stopped.body;
  fits = omega (arith, length-append so_far.done stopped.body, so_far.within, stopped.within);
  lines_are = sym all;
  of_script = λ reads. record {
    split = so_far.bytes reads ∙ ap (λ x. so_far.done ++ x) (stopped.bytes reads) ∙ sym (append_assoc so_far.done stopped.body left);
    rest = tt;
    lines_are = sym all;
  };
  counted = rose;
}
  where
    all : ended_lines (so_far.done ++ stopped.body) ≡ lines
    all = ended_done stopped.body so_far.ended ∙ ap (λ x. stripped so_far.parts ++ x) (ended_unended stopped.body stopped.unended) ∙ append-nil (stripped so_far.parts) ∙ sym so_far.are
