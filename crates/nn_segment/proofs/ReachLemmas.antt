-- How far the records that were read reach, from one record to the next.
use Rattle.std.proofs.Common.{◌≡◌, ℕ, ◌+◌, ◌-◌, ◌<◌, ◌≤◌, List, [], ◌∷◌, ◌++◌, length, take, drop, Option, Some, None, refl, sym, ap, subst, ◌∙◌, append_assoc, arith, length-append}
use Rattle.std.proofs.lemmas.List.{append-nil, drop_at, length-drop}
use Rattle.std.proofs.lemmas.Grind.{flat_map-append}
use Rattle.nn_record.specs.declared.transaction.Record.{Record}
use Rattle.nn_record.specs.Spelling.{spelling, IsRecord, Begins, BeginsWithFrame}
use Rattle.nn_record.proofs.RecordLemmas.{length-spelling}
use Rattle.nn_segment.specs.Segment.{spelled, AreFrom, last_id}
use Rattle.nn_segment.specs.Reaching.{IsNext, NoneNext, IsWhole, ReachFrame}
use Rattle.nn_segment.proofs.RunLemmas.{rest_is, none_is_longer}

pub record Reached (bytes : List ℕ) (first : ℕ) (last : Option ℕ) (end next : ℕ) : Type 0 where
  pub rs : List Record
  pub ids : AreFrom first rs
  pub text : bytes ≡ spelled rs ++ drop end bytes
  pub len : end ≡ length (spelled rs)
  pub count : next ≡ first + length rs
  pub last_is : last ≡ last_id rs

pub nothing_reached : (bytes : List ℕ) (first : ℕ) → Reached bytes first None 0 first
unfolding spelled
nothing_reached bytes first = record { rs = []; ids = tt; text = refl; len = refl; count = omega arith; last_is = refl }

-- ---- one record more

pub one_more_from : (first : ℕ) (rs : List Record) (r : Record) → AreFrom first rs → IsRecord r → r.id ≡ first + length rs → AreFrom first (rs ++ r ∷ [])
one_more_from first [] r from is e = (omega (arith, e), is, tt)
one_more_from first (q ∷ rs) r from is e = (from.0, from.1, one_more_from (first + 1) rs r from.2 is (omega (arith, e)))

pub spelled-push : (rs : List Record) (r : Record) → spelled (rs ++ r ∷ []) ≡ spelled rs ++ spelling r
unfolding spelled
spelled-push rs r = flat_map-append spelling rs (r ∷ []) ∙ ap (λ t. spelled rs ++ t) (append-nil (spelling r))

last_id-push : (rs : List Record) (r : Record) → last_id (rs ++ r ∷ []) ≡ Some r.id
last_id-push [] r = refl
last_id-push (q ∷ []) r = refl
last_id-push (q ∷ s ∷ rs) r = last_id-push (s ∷ rs) r

pub within : (bytes : List ℕ) (first : ℕ) (last : Option ℕ) (end next : ℕ) → Reached bytes first last end next → end ≤ length bytes
within bytes first last end next so_far = omega (arith, so_far.len, ap length so_far.text, length-append (spelled so_far.rs) (drop end bytes))

one_more : (bytes : List ℕ) (first : ℕ) (last : Option ℕ) (end next len : ℕ) (r : Record) → Reached bytes first last end next → r.id ≡ next → Begins (drop end bytes) r (drop len (drop end bytes)) → len ≡ length (spelling r)
    → Reached bytes first (Some next) (end + len) (next + 1)
one_more bytes first last end next len r so_far id begins size =
    let rs = so_far.rs in
    let parts : bytes ≡ spelled (rs ++ r ∷ []) ++ drop len (drop end bytes) =
    so_far.text ∙ ap (λ t. spelled rs ++ t) begins.text ∙ sym (append_assoc (spelled rs) (spelling r) (drop len (drop end bytes))) ∙ ap (λ t. t ++ drop len (drop end bytes)) (sym (spelled-push rs r)) in
    let reach : end + len ≡ length (spelled (rs ++ r ∷ [])) = omega (arith, so_far.len, size, ap length (spelled-push rs r), length-append (spelled rs) (spelling r)) in
    let rest : drop (end + len) bytes ≡ drop len (drop end bytes) = ap (drop (end + len)) parts ∙ drop_at (spelled (rs ++ r ∷ [])) (drop len (drop end bytes)) (end + len) (sym reach) in
    record {
      rs = rs ++ r ∷ [];
      ids = one_more_from first rs r so_far.ids begins.formed (id ∙ so_far.count);
      text = parts ∙ ap (λ t. spelled (rs ++ r ∷ []) ++ t) (sym rest);
      len = reach;
      count = omega (arith, so_far.count, length-append rs (r ∷ []));
      last_is = ap (λ (n : ℕ). Some n) (sym id) ∙ sym (last_id-push rs r);
    }

-- each record has a byte
further : (bytes rest : List ℕ) (r : Record) (len : ℕ) → Begins bytes r rest → len ≡ length (spelling r) → (0 < len) × (len ≤ length bytes)
further bytes rest r len begins size = (omega (arith, size, length-spelling r), omega (arith, size, ap length begins.text, length-append (spelling r) rest))

-- ---- the end

all_reached : (bytes : List ℕ) (first : ℕ) (last : Option ℕ) (end next : ℕ) (so_far : Reached bytes first last end next) → NoneNext (drop end bytes) next → IsWhole bytes first so_far.rs
all_reached bytes first last end next so_far none = record {
  begin = record { ids = so_far.ids; after = drop end bytes; text = so_far.text };
  longest = λ qs begin. none_is_longer first so_far.rs qs (drop end bytes) begin.after so_far.ids begin.ids (sym so_far.text ∙ begin.text) (subst (NoneNext (drop end bytes)) so_far.count none);
}

-- ---- the same of the rest of a slice

pub more_reached : (bytes : List ℕ) (first : ℕ) (last : Option ℕ) (end next len : ℕ) (r : Record) → Reached bytes first last end next → IsNext (take (length bytes - end) (drop end bytes)) next r len → Reached bytes first (Some next) (end + len) (next + 1)
more_reached bytes first last end next len r so_far found =
    let at = subst (λ (t : List ℕ). IsNext t next r len) (rest_is bytes end) found in
    one_more bytes first last end next len r so_far at.id_is at.begins at.len_is

pub less_is_left : (bytes : List ℕ) (end next len : ℕ) (r : Record) → IsNext (take (length bytes - end) (drop end bytes)) next r len → length bytes - (end + len) < length bytes - end
less_is_left bytes end next len r found =
    let at = subst (λ (t : List ℕ). IsNext t next r len) (rest_is bytes end) found in
    omega (arith, further (drop end bytes) (drop len (drop end bytes)) r len at.begins at.len_is, length-drop end bytes)

pub whole_reached : (bytes : List ℕ) (first : ℕ) (last : Option ℕ) (end next : ℕ) (so_far : Reached bytes first last end next) → NoneNext (take (length bytes - end) (drop end bytes)) next → IsWhole bytes first so_far.rs
whole_reached bytes first last end next so_far none = all_reached bytes first last end next so_far (subst (λ (t : List ℕ). NoneNext t next) (rest_is bytes end) none)

pub frame_reached : (bytes : List ℕ) (first : ℕ) (last : Option ℕ) (end next : ℕ) → Reached bytes first last end next → BeginsWithFrame (take (length bytes - end) (drop end bytes)) → ReachFrame bytes first
frame_reached bytes first last end next so_far frame =
    record {
      rs = so_far.rs;
      begin = record { ids = so_far.ids; after = drop end bytes; text = so_far.text };
      frame = subst BeginsWithFrame (rest_is bytes end) frame;
    }
