-- A formatted directory alone opens to the empty namespace, and so does each choice of directories with a formatted one.
use Rattle.std.proofs.Common.{◌≡◌, ◌⊎◌, inl, inr, ⊎_elim, ℕ, ◌+◌, ◌<◌, ◌≤◌, Some, sym, ◌∙◌, arith, lit<}
use Rattle.std.specs.Fmt.{decimal}
use Rattle.std.proofs.lemmas.Option.{same_Some}
use Rattle.nn_base.specs.Limits.{program_layout}
use Rattle.nn_base.specs.declared.sub.Sub.TheVariants.{Current, Previous}
use Rattle.nn_base.specs.declared.file_name.FileName.TheVariants.{Seen}
use Rattle.nn_host.specs.Disk.{Reads}
use Rattle.nn_state.specs.Typed.{FitsFresh}
use Rattle.nn_marks.specs.Seen.{seen_text_of}
use Rattle.nn_marks.specs.VersionText.{version_text_of}
use Rattle.nn_marks.specs.declared.version.Version.{Version}
use Rattle.nn_marks.proofs.SeenLemmas.{number_in-decimal, seen_only}
use Rattle.nn_marks.proofs.VersionTextLemmas.{reads_back}
use Rattle.nn_tree.specs.Namespace.{empty_namespace}
use Rattle.nn_chain.specs.Folder.{Folder, HasSeen}
use Rattle.nn_remake.proofs.LeftLemmas.{made_intact, made_no_later, made_no_segment}
use Rattle.nn_pick.specs.Dirs.{EachChoice, choice}
use Rattle.nn_pick.specs.Laws.{HoldsImage}
use Rattle.nn_pick.proofs.VersionLemmas.{SaysTheSame, says_itself, same_turned, same_as_well}
use Rattle.nn_pick.proofs.HoldsLemmas.{fresh_serves, holds_formatted, holds_under}
use Rattle.nn_pick.proofs.AloneLemmas.{opens_alone}
use Rattle.nn_pick.proofs.OneImageLemmas.{one_image_is_sound}
use Rattle.nn_open.specs.Formatted.{ReadsFormatted, LeftFreshOrNew, OpensEmpty, OpenEmptySoundly, EachChoiceOpensEmpty, LeftFreshOrOpen}

-- ---- alone

-- seen_txid says 0
seen_none : (folder : Folder) → folder Seen ≡ Some (seen_text_of 0) → (id : ℕ) → HasSeen folder id → id ≤ 0 + 1
seen_none folder there id (inr none) = omega (arith, none.0)
seen_none folder there id (inl says) =
    let text : says.0 ≡ seen_text_of 0 = same_Some says.0 (seen_text_of 0) (sym says.1 ∙ there) in
    let zero : 0 ≡ id = same_Some 0 id (sym (number_in-decimal 0 (lit< tt)) ∙ seen_only says.0 (decimal 0) id (inl text) says.2) in
    omega (arith, zero)

formatted_holds : (version : Version) → version.layout ≡ program_layout → (c : Reads) → ReadsFormatted version c → HoldsImage c version 0 empty_namespace
formatted_holds version layout c is = record {
  normal = is.normal;
  nothing_saved = is.whole.other_subs Previous (λ x. cc);
  says = (version_text_of version, is.whole.version_file, reads_back version);
  ours = layout;
  intact = made_intact c is;
  later = made_no_later c is;
  segments = made_no_segment c is;
  seen = seen_none (c.file Current) is.whole.seen_file;
  room = lit< tt;
}

pub formatted_opens : (version : Version) → version.layout ≡ program_layout → (c : Reads) → ReadsFormatted version c → OpensEmpty c
formatted_opens version layout c is = opens_alone c version 0 empty_namespace (formatted_holds version layout c is)

-- ---- choices

-- of directories that are not formatted, or formatted under VERSIONs that all say the same
pub choices_open : (P : Version → Type 0) → ((v : Version) → P v → v.layout ≡ program_layout) → ((v w : Version) → P v → P w → SaysTheSame v w) → (count : ℕ) (contents : ℕ → Reads)
    → ((i : ℕ) → i < count → FitsFresh (contents i) ⊎ ((v : Version) × P v × ReadsFormatted v (contents i))) → EachChoiceOpensEmpty count contents
choices_open P ours one count contents each n numbers within some = elim (each (numbers some.0) (within some.0 some.1)) [
  | inl fresh ↦ absurd (some.2 (fresh_serves (contents (numbers some.0)) fresh))
  | inr its ↦ one_image_is_sound (choice contents n numbers) its.0 0 empty_namespace (record {
    each = λ k below. ⊎_elim
        (λ fresh. inl fresh)
        (λ other. inr (holds_under (contents (numbers k)) its.0 other.0 0 empty_namespace (one its.0 other.0 its.1 other.1)
        (formatted_holds other.0 (ours other.0 other.1) (contents (numbers k)) other.2)))
        (each (numbers k) (within k below));
    some = some;
  })
]

module _ (version : Version) (layout : version.layout ≡ program_layout) (count : ℕ) (contents : ℕ → Reads) where
  under_one : ((i : ℕ) → i < count → LeftFreshOrNew version (contents i)) → EachChoiceOpensEmpty count contents
  under_one each = choices_open (λ v. SaysTheSame v version) (λ v says. says.layout ∙ layout) (λ v w p q. same_as_well v version w p (same_turned w version q)) count contents
      (λ i below. ⊎_elim (λ fresh. inl fresh) (λ new. inr (version, says_itself version, new)) (each i below))

  pub left_fresh_or_open : ((i : ℕ) → i < count → LeftFreshOrNew version (contents i)) → LeftFreshOrOpen count contents
  left_fresh_or_open each = record {
    each = λ i below. ⊎_elim (λ fresh. inl fresh) (λ new. inr (formatted_opens version layout (contents i) new)) (each i below);
    choices = under_one each;
  }

  -- where all are formatted, one is in each choice of one or more
  pub all_choices_open : ((i : ℕ) → i < count → ReadsFormatted version (contents i)) → EachChoice count contents (λ dirs. 0 < dirs.count → OpenEmptySoundly dirs)
  all_choices_open each n numbers within some = under_one (λ i below. inr (each i below)) n numbers within
      (0, some, holds_formatted (formatted_holds version layout (contents (numbers 0)) (each (numbers 0) (within 0 some))))
