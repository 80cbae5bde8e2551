-- The marks of a folder, as they are read.
use Rattle.std.proofs.Common.{◌≡◌, inl, inr, ℕ, ◌≤◌, List, length, take, Option, Some, None, Err, refl, sym, ◌∙◌, ap, subst, arith, length-append}
use Rattle.std.specs.Prelude.{codes, nat_le, IfSome, unwrap_or}
use Rattle.std.proofs.lemmas.Bool.{cases_Bool, leb-false, lt-ltb}
use Rattle.std.proofs.lemmas.List.{take_all, length-take}
use Rattle.std.proofs.lemmas.Option.{same_Some, none-some}
use Rattle.nn_base.specs.Limits.{most_version}
use Rattle.nn_base.specs.declared.file_name.FileName.TheVariants.{Seen}
use Rattle.nn_base.proofs.DecimalLemmas.{writes_from_number_in}
use Rattle.nn_host.specs.Listing.{IsRead}
use Rattle.nn_marks.specs.declared.fault.VersionFault.TheVariants as fault
use Rattle.nn_marks.specs.Seen.{IsSeenText}
use Rattle.nn_marks.specs.VersionFaults.{fault_of}
use Rattle.nn_small.specs.declared.read.ReadAll.TheVariants.{TooLarge}
use Rattle.nn_small.specs.Whole.{whole_of}
use Rattle.nn_chain.specs.Folder.{Folder, SaysSeen}
use Rattle.nn_pick.specs.Dirs.{fault_in}
use Rattle.nn_choose.specs.Picking.{IsSeen}

-- ---- VERSION

pub too_long : (file : Option (List ℕ)) (size : ℕ) → whole_of most_version file ≡ Err (TooLarge size) → fault_in file ≡ Some fault.TooLong
unfolding fault_of
too_long None size e = cc
too_long (Some bytes) size e = elim (cases_Bool (nat_le (length bytes) most_version)) [
  | inl small ↦ let at : whole_of most_version (Some bytes) ≡ Err (TooLarge size) = e in absurd (let there = rw small at at in cc)
  | inr long ↦ rw (lt-ltb most_version (length bytes) (leb-false (length bytes) most_version long)) refl
]

-- ---- seen_txid, read into more room than it takes

short : (text : List ℕ) (id : ℕ) → IsSeenText text id → (1 ≤ length text) × (length text ≤ 20)
short text id is =
    let writes = writes_from_number_in is.0 id is.1 in
    elim is.2 [
      | inl bare ↦ (omega (arith, ap length bare, writes.some), omega (arith, ap length bare, writes.few))
      | inr ended ↦ (omega (arith, ap length ended, length-append is.0 (codes "\n"), writes.some), omega (arith, ap length ended, length-append is.0 (codes "\n"), writes.few))
    ]

-- a short text that was read is the whole file
shown : (file : Option (List ℕ)) {n : ℕ} {old new : List ℕ} → IsRead file 0 n old new → length old ≡ 32 → 1 ≤ length (take n new) → length (take n new) ≤ 20 → file ≡ Some (take n new)
shown None {n} {old} {new} read room some few = absurd (omega (arith, read.count, room, some, length-take n new))
shown (Some bytes) {n} {old} {new} read room some few =
    let cut : take n new ≡ take n bytes = read.front in
    let size : length (take n bytes) ≤ 20 = omega (arith, ap length cut, few) in
    let whole : length bytes ≡ n = omega (arith, read.count, room, size, length-take n bytes) in
    ap (λ (t : List ℕ). Some t) (sym (cut ∙ take_all n bytes (omega (arith, whole))))

-- a short file was read whole
read_whole : (text : List ℕ) {n : ℕ} {old new : List ℕ} → IsRead (Some text) 0 n old new → length old ≡ 32 → length text ≤ 20 → take n new ≡ text
read_whole text {n} read room few = read.front ∙ take_all n text (omega (arith, read.count, room, few))

pub seen_is : (folder : Folder) {n : ℕ} {old new : List ℕ} (found : Option ℕ) → IsRead (folder Seen) 0 n old new → length old ≡ 32
    → IfSome found (IsSeenText (take n new)) → ((id : ℕ) → IsSeenText (take n new) id → found ≡ Some id) → IsSeen folder (unwrap_or found 0)
seen_is folder {n} {old} {new} (Some id) read room is only =
    let few = short (take n new) id is in
    let there = shown (folder Seen) read room few.0 few.1 in (
      inl (take n new, there, is),
      λ other has. elim has [
        | inl says ↦ same_Some other id (sym (only other (subst (λ (t : List ℕ). IsSeenText t other) (same_Some says.0 (take n new) (sym says.1 ∙ there)) says.2)))
        | inr zero ↦ absurd (zero.1 id (take n new, there, is))
      ],
    )
seen_is folder {n} {old} {new} None read room is only = (inr (refl, none), λ other has. elim has [ inl says ↦ absurd (none other says) | inr zero ↦ zero.0 ])
  where
    none : (said : ℕ) → ¬ SaysSeen folder said
    none said says =
        let few = short says.0 said says.2 in
        let same = read_whole says.0 (subst (λ (f : Option (List ℕ)). IsRead f 0 n old new) says.1 read) room few.1 in
        none-some said (only said (subst (λ (t : List ℕ). IsSeenText t said) (sym same) says.2))
