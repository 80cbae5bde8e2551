-- What tidying does to which files, and what is left of a folder that was tidied.
use Rattle.std.proofs.Common.{◌≡◌, inl, inr, ⊎_elim, ℕ, ℤ, Bool, true, false, nat_lt, None, refl, sym, ◌∙◌, ap, subst, arith}
use Rattle.std.proofs.lemmas.Bool.{lt-ltb, ltb-true}
use Rattle.std.proofs.lemmas.Option.{none-some}
use Rattle.nn_base.specs.declared.sub.Sub.TheVariants.{Current}
use Rattle.nn_base.specs.declared.file_name.FileName.{FileName}
use Rattle.nn_base.specs.declared.file_name.FileName.TheVariants as name
use Rattle.nn_base.specs.Names.{form_of}
use Rattle.nn_host.specs.Disk.{Held, Reads}
use Rattle.nn_record.specs.declared.transaction.Record.{Record}
use Rattle.nn_chain.specs.Folder.{Folder, folder_at}
use Rattle.nn_chain.specs.Records.{first_in, HoldsRecord, HasNoneAfter}
use Rattle.nn_remake.specs.Removing.{is_later_image}
use Rattle.nn_remake.specs.Tidying.{is_unnamed, Goes, IsTidying, IsTidied, IsTidy}

-- two names of one segment differ
pub not_progress : (span : ℕ × ℕ) (first : ℕ) → name.Edits span ≡ name.InProgress first → ⊥
not_progress span first e = let f = ap form_of e in omega (arith, f)

-- an image isn't later than itself
pub own_image : (id : ℕ) → is_later_image id (name.Image id) ≡ false
own_image id = by (nat_lt id id) refl
  where
    by : (b : Bool) → nat_lt id id ≡ b → nat_lt id id ≡ false
    by false e = e
    by true e = absurd (let lt = ltb-true id id e in omega (arith, lt))

module _ {A : Type 0} (folder : Folder) (layout : ℤ) (id : ℕ) (old d : Held A) (is : IsTidying folder layout id old d) where
  -- a file of another kind stays
  pub tidying_stays : (n : FileName) → is_unnamed n ≡ false → is_later_image id n ≡ false → first_in n ≡ None → d.file Current n ≡ old.file Current n
  tidying_stays n named earlier other = ⊎_elim
      (λ same. same)
      (λ changed. ⊎_elim
      (λ gone. absurd (not_goes gone.0))
      (λ renamed. ⊎_elim (λ here. absurd (none-some renamed.first (sym other ∙ ap first_in here))) (λ there. absurd (none-some renamed.first (sym other ∙ ap first_in there))) renamed.either)
      changed)
      (is.files n)
    where
      not_goes : ¬ Goes folder layout id n
      not_goes (inl e) = cc
      not_goes (inr (inl e)) = cc
      not_goes (inr (inr (inl (inl beyond)))) = none-some beyond.0 (sym other ∙ beyond.1)
      not_goes (inr (inr (inl (inr beyond)))) = none-some beyond.2.first (sym other ∙ beyond.2.begins)
      not_goes (inr (inr (inr none))) = none-some none.0 (sym other ∙ ap first_in none.1)

-- ---- afterwards

module _ (layout : ℤ) (id : ℕ) (old new : Reads) (is : IsTidied (folder_at old Current) layout id old new) where
  held_before : (n : FileName) (r : Record) → new.file Current n ≡ old.file Current n → HoldsRecord (folder_at new Current) layout n r → HoldsRecord (folder_at old Current) layout n r
  held_before n r same h = record { ranged = h.ranged; first = h.first; begins = h.begins; bytes = h.bytes; there = sym same ∙ h.there; small = h.small; run = h.run; intact = h.intact; has = h.has; within = h.within }

  none_after : HasNoneAfter (folder_at new Current) layout id
  none_after n r above h = ⊎_elim
      (λ same. out (is.gone n (inr (inr (inl (inr (r, above, held_before n r same h)))))))
      (λ other. ⊎_elim
      (λ gone. out gone.1)
      (λ named. ⊎_elim
      (λ here. out (ap (λ (x : FileName). new.file Current x) here ∙ named.from))
      (λ there.
      let within = (subst (λ (x : FileName). HoldsRecord (folder_at new Current) layout x r) there h).within in
      let most = named.gets.most in
      absurd (omega (arith, within, most, above)))
      named.either)
      other)
      (is.tidying.files n)
    where
      out : new.file Current n ≡ None → ⊥
      out none = none-some h.bytes (sym none ∙ h.there)

  pub tidied_tidy : IsTidy (folder_at new Current) layout id
  tidied_tidy = record {
    images = λ later above. is.gone (name.Image later) (inr (inl (lt-ltb id later above)));
    named = λ n e. is.gone n (inl e);
    ended = is.ended;
    begins = λ n first begins above. is.gone n (inr (inr (inl (inl (first, begins, above)))));
    none = none_after;
  }
