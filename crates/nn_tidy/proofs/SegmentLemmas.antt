-- Names of files that differ, and what is so of a segment that gets its last name.
use Rattle.std.proofs.Common.{◌≡◌, ◌≢◌, ◌⊎◌, inl, inr, ℕ, ◌<◌, ◌≤◌, ℤ, sym, ap, subst, arith}
use Rattle.std.proofs.lemmas.Cmp.{nat_list_cmp_total}
use Rattle.std.proofs.lemmas.Option.{same_Some}
use Rattle.nn_base.specs.declared.file_name.FileName.{FileName}
use Rattle.nn_base.specs.declared.file_name.FileName.TheVariants as name
use Rattle.nn_base.specs.FileText.{text_of}
use Rattle.nn_base.specs.Names.{first_id, last_id}
use Rattle.nn_host.specs.Listing.{IsBefore}
use Rattle.nn_record.specs.declared.transaction.Record.{Record}
use Rattle.nn_segment.proofs.RunLemmas.{run_from, id_at}
use Rattle.nn_chain.specs.Folder.{Folder}
use Rattle.nn_remake.specs.Tidying.{IsBeyond, RunEnds, GetsName, Goes}
use Rattle.nn_remake.proofs.TidyingLemmas.{not_progress}

-- ---- names

pub in_order : (a b : FileName) → IsBefore a b → IsBefore b a → ⊥
in_order a b one other = let turned = nat_list_cmp_total.antisymm (text_of a) (text_of b) in cc

pub before_other : (a b : FileName) → IsBefore a b → a ≢ b
before_other a b before same = in_order a b before (subst (λ (x : FileName). IsBefore b x) (sym same) (subst (λ (x : FileName). IsBefore x b) same before))

pub same_progress : (a b : ℕ) → name.InProgress a ≡ name.InProgress b → a ≡ b
same_progress a b e = ap first_id e

pub same_edits : (a b : ℕ × ℕ) → name.Edits a ≡ name.Edits b → (a.0 ≡ b.0) × (a.1 ≡ b.1)
same_edits a b e = (ap first_id e, ap last_id e)

-- ---- segments

module _ (folder : Folder) (layout : ℤ) (id : ℕ) where
  pub first_at_most : (first last : ℕ) → RunEnds folder layout first last → first ≤ last
  first_at_most first last ends =
      let h = ends.holds in
      let at = id_at h.first h.run h.has.0 ends.final (run_from h.bytes layout h.first h.run h.intact.run) h.has.1 in
      let is = ap (λ (r : Record). r.id) h.has.2 in
      let begins = same_Some first h.first h.begins in
      let end = ends.id_is in
      omega (arith, at, is, begins, end)

  pub one_end : (first last other : ℕ) → RunEnds folder layout first last → RunEnds folder layout first other → last ≡ other
  one_end first last other a b = either (lt_or last other)
    where
      lt_or : (x y : ℕ) → (x < y) ⊎ (y < x) ⊎ (x ≡ y)
      lt_or x y = grind arith

      either : (last < other) ⊎ (other < last) ⊎ (last ≡ other) → last ≡ other
      either (inl lt) = absurd (a.none b.final (let is = b.id_is in omega (arith, is, lt)) b.holds)
      either (inr (inl lt)) = absurd (b.none a.final (let is = a.id_is in omega (arith, is, lt)) a.holds)
      either (inr (inr e)) = e

  -- a segment that gets its last name isn't beyond, under neither name
  module _ (first last : ℕ) (gets : GetsName folder layout id first last) where
    pub old_not_beyond : ¬ IsBeyond folder layout id (name.InProgress first)
    old_not_beyond (inl beyond) =
        let order = first_at_most first last gets.ends in
        let most = gets.most in
        let same = same_Some first beyond.0 beyond.1 in
        let above = beyond.2 in
        omega (arith, order, most, same, above)
    old_not_beyond (inr beyond) = gets.ends.none beyond.0 (let most = gets.most in let above = beyond.1 in omega (arith, most, above)) beyond.2

    pub new_not_beyond : ¬ IsBeyond folder layout id (name.Edits (first, last))
    new_not_beyond (inl beyond) =
        let order = first_at_most first last gets.ends in
        let most = gets.most in
        let same = same_Some first beyond.0 beyond.1 in
        let above = beyond.2 in
        omega (arith, order, most, same, above)
    new_not_beyond (inr beyond) =
        let within = beyond.2.within in
        let most = gets.most in
        let above = beyond.1 in
        omega (arith, within, most, above)

    pub new_stays : ¬ Goes folder layout id (name.Edits (first, last))
    new_stays (inl e) = cc
    new_stays (inr (inl e)) = cc
    new_stays (inr (inr (inl beyond))) = new_not_beyond beyond
    new_stays (inr (inr (inr none))) = not_progress (first, last) none.0 none.1
