-- How a line is read part by part.
use Rattle.std.proofs.Common.{◌≡◌, ◌≢◌, ℕ, ◌+◌, ◌-◌, ◌<◌, ◌≤◌, Bool, true, false, [], ◌∷◌, ◌++◌, length, take, drop, get_or, nat_lt, Some, None, Result, Ok, Err, length-append, length-drop, append_assoc, sym, ap, ◌∙◌, refl, arith}
use Rattle.std.specs.Prelude.{OnErr}
use Rattle.std.specs.List.{position, slice_range}
use Rattle.std.specs.Str.Lines.{strip_carriage_return}
use Rattle.std.proofs.lemmas.List.{append-nil, nil_from_length, length-take, length-take-le, take-append-le}
use Rattle.std.proofs.lemmas.List.Elements.{All-append, All-nil}
use Rattle.std.proofs.lemmas.Bool.Decides.{nat_tests}
use Rattle.nn_base.specs.Paths.{Bytes}
use Rattle.nn_host.specs.Sources.{Took}
use Rattle.nn_reader.specs.declared.reader.Next.TheVariants.{TooLong}
use Rattle.nn_reader.specs.Reading.{most_kept, front_of, kept_of, past_of, IsBehind}
use Rattle.nn_reader.specs.Reader.{EndedLine, IsNextLine, Stopped, PartRead, HasRead, Refilled}
use Rattle.nn_base.proofs.MarkLemmas.{split_at_mark, mark_within, no_mark_before, no_mark}
use Rattle.nn_reader.proofs.BytesLemmas.{is_newline, range_rest, front_front}

pub has_read_nothing : {told : Type 0} (before : Bytes) (budget : ℕ) (line : Bytes) → line ≡ [] → HasRead told before before budget budget line
has_read_nothing before budget line e = record { body = []; unended = All-nil (λ byte. is_newline byte ≡ false); is = e ∙ front_nil; bytes = λ tells. refl; budget = omega arith }
  where
    front_nil : [] ≡ front_of []
    front_nil = refl

pub has_read_more : {told : Type 0} {before : Bytes} {budget : ℕ} {ahead rest line more : Bytes} (left : Bytes) (room : ℕ)
    → HasRead told before (ahead ++ left) budget (length ahead + room) line → PartRead false ahead rest line more → HasRead told before (rest ++ left) budget (length rest + room) more
has_read_more {rest = rest} left room so_far read = record {
  body = so_far.body ++ read.part;
  unended = All-append (λ byte. is_newline byte ≡ false) so_far.body read.part so_far.unended read.unended;
  is = read.is ∙ ap (λ front. front_of (front ++ read.part)) so_far.is ∙ front_front most_kept so_far.body read.part;
  bytes = λ tells. so_far.bytes tells ∙ ap (λ a. so_far.body ++ (a ++ left)) read.ahead ∙ ap (λ x. so_far.body ++ x) (append_assoc read.part rest left) ∙ sym (append_assoc so_far.body read.part (rest ++ left));
  budget = omega (arith, so_far.budget, ap length read.ahead, length-append read.part rest, length-append so_far.body read.part);
}

pub ended_line : {told : Type 0} {before : Bytes} {budget : ℕ} {ahead rest line more : Bytes} (left : Bytes) (room : ℕ)
    → HasRead told before (ahead ++ left) budget (length ahead + room) line → PartRead true ahead rest line more → EndedLine told before (rest ++ left) budget (length rest + room) (strip_carriage_return more)
ended_line {rest = rest} left room so_far read = record {
  body = so_far.body ++ read.part;
  unended = All-append (λ byte. is_newline byte ≡ false) so_far.body read.part so_far.unended read.unended;
  is = ap strip_carriage_return (read.is ∙ ap (λ front. front_of (front ++ read.part)) so_far.is ∙ front_front most_kept so_far.body read.part);
  bytes = λ tells. so_far.bytes tells ∙ ap (λ a. so_far.body ++ (a ++ left)) read.ahead ∙ ap (λ x. so_far.body ++ x) (append_assoc read.part (10 ∷ rest) left) ∙ sym (append_assoc so_far.body read.part (10 ∷ (rest ++ left)));
  budget = omega (arith, so_far.budget, ap length read.ahead, length-append read.part (10 ∷ rest), length-append so_far.body read.part);
}

-- a chunk was taken
pub has_read_on : {told : Type 0} {before left left_after : Bytes} {budget room room_after : ℕ} {ahead ahead_after line again : Bytes} {some : Bool}
    → HasRead told before (ahead ++ left) budget (length ahead + room) line → ahead ≡ [] → Refilled told some left left_after ahead_after room room_after → again ≡ line
    → HasRead told before (ahead_after ++ left_after) budget (length ahead_after + room_after) again
has_read_on {left = left} {ahead = ahead} so_far none taken same = record {
  body = so_far.body;
  unended = so_far.unended;
  is = same ∙ so_far.is;
  bytes = λ tells. so_far.bytes tells ∙ ap (λ a. so_far.body ++ (a ++ left)) none ∙ ap (λ x. so_far.body ++ x) (taken.bytes tells);
  budget = omega (arith, so_far.budget, ap length none, taken.room);
}

length_kept : (n : ℕ) (body kept : Bytes) → 0 < n → kept ≡ take n body → (length kept ≡ 0 → length body ≡ 0) × (length body ≡ 0 → length kept ≡ 0)
length_kept n body kept some e = (λ zero. omega (arith, ap length e, length-take n body), λ zero. omega (arith, ap length e, length-take n body))

kept_some : {byte : ℕ} {bytes : Bytes} (body : Bytes) → byte ∷ bytes ≡ front_of body → body ≢ []
kept_some {byte} {bytes} body e none = absurd (omega (arith, (length_kept most_kept body (byte ∷ bytes) (omega arith) e).1 (ap length none)))

-- there is no more
pub last_line : {told : Type 0} {before after : Bytes} {budget budget_after : ℕ} (line : Bytes)
    → HasRead told before after budget budget_after line → (told → after ≡ []) → IsNextLine told (kept_of line) before after budget budget_after line
last_line [] so_far none = record {
  bytes = λ tells. so_far.bytes tells ∙ (λ i. nil_from_length so_far.body ((length_kept most_kept so_far.body [] (omega arith) so_far.is).0 refl) i ++ none tells i);
  none = none;
}
last_line (byte ∷ bytes) so_far none = record {
  body = so_far.body;
  unended = so_far.unended;
  some = kept_some so_far.body so_far.is;
  is = so_far.is;
  bytes = λ tells. so_far.bytes tells ∙ ap (λ x. so_far.body ++ x) (none tells) ∙ append-nil so_far.body;
  none = none;
  budget = so_far.budget;
}

pub stopped : {told : Type 0} {before after left : Bytes} {budget budget_after : ℕ} {line : Bytes}
    → HasRead told before after budget budget_after line → (told → after ≡ left) → Stopped told before left budget
stopped so_far same = record { body = so_far.body; unended = so_far.unended; bytes = λ tells. so_far.bytes tells ∙ ap (λ x. so_far.body ++ x) (same tells); within = omega (arith, so_far.budget) }

-- all the bytes that the lines may have were read
pub past_room : {told : Type 0} {before : Bytes} {budget room : ℕ} {ahead line : Bytes} (left left_after : Bytes) (more : Bool) (budget_after : ℕ)
    → HasRead told before (ahead ++ left) budget (length ahead + room) line → ahead ≡ [] → room ≡ 0 → budget_after ≡ length ahead + room → IsBehind told more left left_after
    → IsNextLine told (past_of more line) before (ahead ++ left_after) budget budget_after line
past_room {ahead = ahead} left left_after true budget_after so_far none zero same behind = record {
  body = so_far.body;
  byte = behind.0;
  unended = so_far.unended;
  bytes = λ tells. so_far.bytes tells ∙ (λ i. so_far.body ++ (none i ++ behind.1 tells i)) ∙ (λ i. so_far.body ++ behind.0 ∷ (sym none i ++ left_after));
  whole = omega (arith, so_far.budget, ap length none);
}
past_room {told} {before} {budget} {room} {ahead} {line} left left_after false budget_after so_far none zero same behind = last_line line all (λ tells. (λ i. none i ++ behind.1 tells i))
  where
    all : HasRead told before (ahead ++ left_after) budget budget_after line
    all = record {
      body = so_far.body;
      unended = so_far.unended;
      is = so_far.is;
      bytes = λ tells. so_far.bytes tells ∙ ap (λ x. so_far.body ++ (ahead ++ x)) (behind.0 tells ∙ sym (behind.1 tells));
      budget = omega (arith, so_far.budget, same);
    }

pub ended_as : {told : Type 0} {before after after' : Bytes} {budget budget_after budget_after' : ℕ} {line line' : Bytes}
    → EndedLine told before after budget budget_after line → after' ≡ after → budget_after' ≡ budget_after → line' ≡ line → EndedLine told before after' budget budget_after' line'
ended_as ended bytes budget line = record {
  body = ended.body;
  unended = ended.unended;
  is = line ∙ ended.is;
  bytes = λ tells. ended.bytes tells ∙ ap (λ x. ended.body ++ 10 ∷ x) (sym bytes);
  budget = omega (arith, ended.budget, budget);
}

pub on_err : {T E P : Type 0} (result : Result T E) → P → OnErr result P
on_err (Ok value) p = tt
on_err (Err fault) p = p

-- ---- one part of what was taken

pub part_ended : (chunk bytes : Bytes) (at end n : ℕ) (line more : Bytes) → bytes ≡ slice_range chunk at end → position is_newline bytes ≡ Some n → at ≤ end → end ≤ length chunk
    → more ≡ front_of (line ++ take n bytes) → PartRead true (slice_range chunk at end) (slice_range chunk (at + (n + 1)) end) line more
part_ended chunk bytes at end n line more here e le within is = record {
  part = take n bytes;
  unended = no_mark_before 10 bytes n e;
  ahead = sym here ∙ split_at_mark 10 bytes n e ∙ ap (λ x. take n bytes ++ 10 ∷ x) (ap (drop (n + 1)) here ∙ range_rest chunk at end (n + 1) fits);
  all = λ never. absurd (cc never);
  is = is;
}
  where
    fits : at + (n + 1) ≤ end
    fits = omega (arith, mark_within 10 bytes n e, ap length here, length-take (end - at) (drop at chunk), length-drop at chunk)

pub part_whole : (chunk bytes : Bytes) (at end : ℕ) (line more : Bytes) → bytes ≡ slice_range chunk at end → position is_newline bytes ≡ None
    → more ≡ front_of (line ++ bytes) → PartRead false (slice_range chunk at end) (slice_range chunk end end) line more
part_whole chunk bytes at end line more here e is = record {
  part = bytes;
  unended = no_mark 10 bytes e;
  ahead = sym here ∙ sym (append-nil bytes) ∙ ap (λ x. bytes ++ x) (sym none);
  all = λ is. none;
  is = is;
}
  where
    none : slice_range chunk end end ≡ []
    none = let e : end - end ≡ 0 = omega arith in ap (λ k. take k (drop end chunk)) e

-- ---- one call of a source

-- the bytes stand at the front of the buffer that was lent
pub front_of_chunk : {before left old new : Bytes} {count : ℕ} (rest : Bytes) → Took before left count old new → count ≤ length new → before ≡ take count (new ++ rest) ++ left
front_of_chunk {left = left} {new = new} {count} rest took within = took.split ∙ ap (λ x. x ++ left) (sym (take-append-le count new rest within))

nothing_there : (before : Bytes) → (before ≢ [] → ⊥) → before ≡ []
nothing_there [] h = refl
nothing_there (byte ∷ before) h = absurd (h (λ e. absurd (omega (arith, ap length e))))

pub took_nothing : {before rest old new : Bytes} {n : ℕ} → Took before rest n old new → n ≡ 0 → 0 < length old → (before ≡ []) × (rest ≡ [])
took_nothing {before} {rest} {old} {new} {n} took zero some = (empty, sym split ∙ empty)
  where
    empty : before ≡ []
    empty = nothing_there before (λ there. absurd (omega (arith, zero, took.some there (λ e. absurd (omega (arith, some, ap length e))))))

    split : before ≡ rest
    split = took.split ∙ ap (λ k. take k new ++ rest) zero

pub took_one : {before rest old new : Bytes} {n : ℕ} → Took before rest n old new → n ≢ 0 → n ≤ 1 → length new ≡ 1 → before ≡ get_or new 0 0 ∷ rest
took_one {before} {rest} {old} {new} {n} took some one len = took.split ∙ ap (λ x. x ++ rest) (first new len)
  where
    is : n ≡ 1
    is = omega arith

    first : (xs : Bytes) → length xs ≡ 1 → take n xs ≡ get_or xs 0 0 ∷ []
    first [] e = absurd (omega (arith, e))
    first (x ∷ []) e = ap (λ k. take k (x ∷ [])) is
    first (x ∷ y ∷ xs) e = absurd (omega (arith, e))

pub refilled : {told : Type 0} {before left : Bytes} (chunk : Bytes) (count room : ℕ) → (told → before ≡ take count chunk ++ left) → (told → count ≡ 0 → before ≡ [])
    → count ≤ room → count ≤ length chunk → Refilled told (nat_lt 0 count) before left (slice_range chunk 0 count) room (room - count)
refilled {told} {before} {left} chunk count room bytes none within fits = record {
  bytes = λ tells. bytes tells ∙ ap (λ x. x ++ left) (sym whole);
  none = λ tells is. none tells (grind (arith, nat_tests));
  fewer = λ is. grind (arith, nat_tests);
  room = omega (arith, ap length whole, length-take-le count chunk fits);
  empty = λ is. let e : count ≡ 0 = grind (arith, nat_tests) in whole ∙ ap (λ k. take k chunk) e;
}
  where
    whole : slice_range chunk 0 count ≡ take count chunk
    whole = let e : count - 0 ≡ count = omega arith in ap (λ k. take k chunk) e

pub never_past : (line : Bytes) → kept_of line ≡ TooLong → ⊥
never_past [] e = cc e
never_past (byte ∷ line) e = cc e
