-- What becomes of a file, by its name and the last id that was read of it.
use Rattle.std.proofs.Common.{◌≡◌, ◌≢◌, ◌⊎◌, inl, inr, ⊎_elim, ℕ, ◌+◌, ◌<◌, ◌≤◌, ℤ, Bool, true, false, ◌||◌, Option, Some, None, refl, sym, ◌∙◌, ap, subst, arith}
use Rattle.std.specs.Prelude.{IfSome}
use Rattle.std.proofs.lemmas.Option.{same_Some, none-some}
use Rattle.nn_base.specs.declared.file_name.FileName.{FileName}
use Rattle.nn_base.specs.declared.file_name.FileName.TheVariants as name
use Rattle.nn_base.specs.FileText.{IsInRange}
use Rattle.nn_base.specs.Names.{form_of}
use Rattle.nn_record.specs.declared.transaction.Record.{Record}
use Rattle.nn_chain.specs.Folder.{Folder}
use Rattle.nn_chain.specs.Records.{first_in, HoldsRecord}
use Rattle.nn_remake.specs.Removing.{is_later_image}
use Rattle.nn_remake.specs.Tidying.{is_unnamed, IsBeyond, RunEnds, GetsName, Goes}
use Rattle.nn_tidy.specs.declared.fate.Fate.TheVariants.{Stays, Beyond, Ends}
use Rattle.nn_tidy.specs.Fates.{ReadTo, IsFreeName, is_loose, IsEnding, IsFate}
use Rattle.nn_tidy.proofs.RunLemmas.{empty_holds, read_holds, read_below}

module _ (folder : Folder) (layout : ℤ) (id : ℕ) where
  -- ---- other files

  -- a file that is no segment stays, unless its name alone says that it goes
  pub stays_named : (n : FileName) → first_in n ≡ None → is_loose id n ≡ false → IsFate folder layout id n Stays
  stays_named n other loose = (λ goes. not_goes goes, λ first e. none-some first (sym other ∙ ap first_in e))
    where
      both : (a b : Bool) → (a || b) ≡ false → (a ≡ false) × (b ≡ false)
      both true b e = cc
      both false b e = (refl, e)

      not_goes : ¬ Goes folder layout id n
      not_goes (inl e) = let f = (both (is_unnamed n) (is_later_image id n) loose).0 in cc
      not_goes (inr (inl e)) = let f = (both (is_unnamed n) (is_later_image id n) loose).1 in cc
      not_goes (inr (inr (inl (inl beyond)))) = none-some beyond.0 (sym other ∙ beyond.1)
      not_goes (inr (inr (inl (inr beyond)))) = none-some beyond.2.first (sym other ∙ beyond.2.begins)
      not_goes (inr (inr (inr none))) = none-some none.0 (sym other ∙ ap first_in none.1)

  -- ---- a finalized segment

  module _ (span : ℕ × ℕ) where
    finalized_stays : ((r : Record) → HoldsRecord folder layout (name.Edits span) r → r.id ≤ id) → span.0 ≤ id → IsFate folder layout id (name.Edits span) Stays
    finalized_stays low begins = (λ goes. not_goes goes, λ first e. let f = ap form_of e in omega (arith, f))
      where
        not_goes : ¬ Goes folder layout id (name.Edits span)
        not_goes (inl e) = cc
        not_goes (inr (inl e)) = cc
        not_goes (inr (inr (inl (inl beyond)))) = (let same = same_Some span.0 beyond.0 beyond.1 in let above = beyond.2 in omega (arith, same, above, begins))
        not_goes (inr (inr (inl (inr beyond)))) = (let most = low beyond.0 beyond.2 in let above = beyond.1 in omega (arith, most, above))
        not_goes (inr (inr (inr none))) = let f = ap form_of none.1 in omega (arith, f)

    pub ended_stays : IsInRange (name.Edits span) → span.1 ≤ id → IsFate folder layout id (name.Edits span) Stays
    ended_stays ranged low = let order = ranged.1 in finalized_stays (λ r h. let within = h.within in omega (arith, within, low)) (omega (arith, order, low))

    pub begun_beyond : id < span.0 → IsFate folder layout id (name.Edits span) Beyond
    begun_beyond above = inl (span.0, refl, above)

    pub read_beyond : (last : ℕ) → IsInRange (name.Edits span) → ReadTo folder layout (name.Edits span) span.0 (Some last) → span.0 ≤ id → id < span.1 → id < last → IsFate folder layout id (name.Edits span) Beyond
    read_beyond last ranged read low inside above =
        let it = read_holds folder layout (name.Edits span) span.0 refl last read ranged (id + 1) (omega (arith, low)) (omega (arith, above)) (omega (arith, inside)) in
        let is = it.1 in
        inr (it.0, omega (arith, is), it.2)

    pub read_stays : (last : Option ℕ) → ReadTo folder layout (name.Edits span) span.0 last → span.0 ≤ id → ((end : ℕ) → last ≡ Some end → end ≤ id) → IsFate folder layout id (name.Edits span) Stays
    read_stays None read low most = finalized_stays (λ r h. absurd (empty_holds folder layout (name.Edits span) span.0 refl read r h)) low
    read_stays (Some last) read low most = finalized_stays (λ r h. let below = read_below folder layout (name.Edits span) span.0 refl last read r h in let end = most last refl in omega (arith, below, end)) low

    pub found_after : (found : Option ℕ) (last : ℕ) → IsInRange (name.Edits span) → ReadTo folder layout (name.Edits span) span.0 found → found ≡ Some last → span.0 ≤ id → id < span.1 → id < last → IsFate folder layout id (name.Edits span) Beyond
    found_after found last ranged read is low inside above = read_beyond last ranged (subst (ReadTo folder layout (name.Edits span) span.0) is read) low inside above

    pub found_before : (found : Option ℕ) (last : ℕ) → ReadTo folder layout (name.Edits span) span.0 found → found ≡ Some last → span.0 ≤ id → last ≤ id → IsFate folder layout id (name.Edits span) Stays
    found_before found last read is low most = read_stays (Some last) (subst (ReadTo folder layout (name.Edits span) span.0) is read) low (λ end e. let same = same_Some last end e in omega (arith, same, most))

    pub found_nothing : (found : Option ℕ) → ReadTo folder layout (name.Edits span) span.0 found → found ≡ None → span.0 ≤ id → IsFate folder layout id (name.Edits span) Stays
    found_nothing found read is low = read_stays None (subst (ReadTo folder layout (name.Edits span) span.0) is read) low (λ end e. absurd (none-some end e))

  -- ---- a segment in progress

  module _ (first : ℕ) where
    pub progress_begun_beyond : id < first → IsBeyond folder layout id (name.InProgress first)
    progress_begun_beyond above = inl (first, refl, above)

    pub progress_read_beyond : (last : ℕ) → IsInRange (name.InProgress first) → ReadTo folder layout (name.InProgress first) first (Some last) → first ≤ last → id < last → IsFate folder layout id (name.InProgress first) Beyond
    progress_read_beyond last ranged read order above =
        let it = read_holds folder layout (name.InProgress first) first refl last read ranged last order (omega arith) tt in
        let is = it.1 in
        inr (it.0, omega (arith, is, above), it.2)

    not_beyond : ((r : Record) → HoldsRecord folder layout (name.InProgress first) r → r.id ≤ id) → first ≤ id → ¬ IsBeyond folder layout id (name.InProgress first)
    not_beyond low begins (inl beyond) = (let same = same_Some first beyond.0 beyond.1 in let above = beyond.2 in omega (arith, same, above, begins))
    not_beyond low begins (inr beyond) = (let most = low beyond.0 beyond.2 in let above = beyond.1 in omega (arith, most, above))

    pub empty_ends : ReadTo folder layout (name.InProgress first) first None → first ≤ id → IsFate folder layout id (name.InProgress first) (Ends None)
    empty_ends read low = (
      not_beyond (λ r h. absurd (empty_holds folder layout (name.InProgress first) first refl read r h)) low,
      (first, refl, λ last gets. empty_holds folder layout (name.InProgress first) first refl read gets.ends.final gets.ends.holds),
    )

    module _ (last : ℕ) (ranged : IsInRange (name.InProgress first)) (read : ReadTo folder layout (name.InProgress first) first (Some last)) (order : first ≤ last) (most : last ≤ id) where
      stays_below : ¬ IsBeyond folder layout id (name.InProgress first)
      stays_below = not_beyond (λ r h. let below = read_below folder layout (name.InProgress first) first refl last read r h in omega (arith, below, most)) (omega (arith, order, most))

      ends_there : RunEnds folder layout first last
      ends_there =
          let it = read_holds folder layout (name.InProgress first) first refl last read ranged last order (omega arith) tt in
          record { final = it.0; id_is = it.1; holds = it.2; none = λ r above h. let below = read_below folder layout (name.InProgress first) first refl last read r h in omega (arith, below, above) }

      pub free_ends : folder (name.Edits (first, last)) ≡ None → IsFate folder layout id (name.InProgress first) (Ends (Some (name.Edits (first, last))))
      free_ends free = (stays_below, (first, last, refl, refl, record { ends = ends_there; most = most; free = free }))

      pub taken_ends : folder (name.Edits (first, last)) ≢ None → IsFate folder layout id (name.InProgress first) (Ends None)
      taken_ends taken = (stays_below, (first, refl, λ other gets. no_name other gets))
        where
          le_or_lt : (a b : ℕ) → (a ≤ b) ⊎ (b < a)
          le_or_lt a b = grind arith

          later : (other : ℕ) → GetsName folder layout id first other → last ≤ other
          later other gets = ⊎_elim (λ le. le) (λ lt. absurd (gets.ends.none ends_there.final (let is = ends_there.id_is in omega (arith, is, lt)) ends_there.holds)) (le_or_lt last other)

          no_name : (other : ℕ) → GetsName folder layout id first other → ⊥
          no_name other gets =
              let below = read_below folder layout (name.InProgress first) first refl last read gets.ends.final gets.ends.holds in
              let here = gets.ends.id_is in
              let above : last ≤ other = later other gets in
              let same : last ≡ other = omega (arith, below, here, above) in
              taken (ap (λ (k : ℕ). folder (name.Edits (first, k))) same ∙ gets.free)

    -- ---- by what was found

    module _ (found : Option ℕ) (ranged : IsInRange (name.InProgress first)) (read : ReadTo folder layout (name.InProgress first) first found) (order : IfSome found (λ k. first ≤ k)) (last : ℕ) (is : found ≡ Some last) where
      read_last : ReadTo folder layout (name.InProgress first) first (Some last)
      read_last = subst (ReadTo folder layout (name.InProgress first) first) is read

      in_order : first ≤ last
      in_order = subst (λ (o : Option ℕ). IfSome o (λ k. first ≤ k)) is order

      pub found_beyond : id < last → IsFate folder layout id (name.InProgress first) Beyond
      found_beyond above = progress_read_beyond last ranged read_last in_order above

      pub found_ends : last ≤ id → (to : Option FileName) → IsFreeName folder (first, last) to → IsEnding folder layout id (name.InProgress first) to
      found_ends most None taken = taken_ends last ranged read_last in_order most taken
      found_ends most (Some to) free = subst (λ (n : FileName). IsEnding folder layout id (name.InProgress first) (Some n)) (sym free.1) (free_ends last ranged read_last in_order most free.0)

    pub found_none : (found : Option ℕ) → ReadTo folder layout (name.InProgress first) first found → found ≡ None → first ≤ id → IsFate folder layout id (name.InProgress first) (Ends None)
    found_none found read is low = empty_ends (subst (ReadTo folder layout (name.InProgress first) first) is read) low
