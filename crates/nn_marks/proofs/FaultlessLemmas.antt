-- A VERSION without a fault says something: there is a Version that it is the text of.
use Rattle.std.proofs.Common.{◌≡◌, ℕ, ◌<◌, ◌≤◌, ◌^◌, ◌<ℤ◌, ◌≤ℤ◌, pos, negsuc, neg_ℤ, Bool, true, false, List, [], ◌∷◌, drop, map, length, Option, Some, None, IsSomeAnd, refl, sym, ◌∙◌, ap, subst, arith, true≢false}
use Rattle.std.specs.Prelude.{not, nat_le, nat_lt, ◌==◌, if◌then◌else◌}
use Rattle.std.specs.List.{list_all}
use Rattle.std.specs.Char.{is_ascii_digit}
use Rattle.std.specs.Str.Lines.{lines}
use Rattle.std.specs.Str.Parse.{digits_value}
use Rattle.std.proofs.lemmas.Bool.{and_parts, leb-true, ltb-true}
use Rattle.std.proofs.lemmas.Int.{ints}
use Rattle.std.proofs.lemmas.Option.{none-some}
use Rattle.nn_base.specs.Limits.{most_version}
use Rattle.nn_base.specs.First.{when, first_of}
use Rattle.nn_base.proofs.FirstLemmas.{none_first}
use Rattle.nn_base.specs.Decimal.{is_number}
use Rattle.nn_marks.specs.declared.key.Key.{Key}
use Rattle.nn_marks.specs.declared.key.Key.TheVariants.{NamespaceId, ClusterId, CTime, StorageType, BlockpoolId, LayoutVersion}
use Rattle.nn_marks.specs.Version.{Line, keys, value_of}
use Rattle.nn_marks.specs.declared.fault.VersionFault.TheVariants.{TooLong, NotText}
use Rattle.nn_marks.specs.VersionFaults.{is_text_byte, line_faults, bad_value, fault_of, key_fault, value_fault, is_value, is_positive}
use Rattle.nn_marks.specs.VersionText.{FaultlessSays}

faultless_value : (key : Key) (o : Option (List ℕ)) → value_fault key o ≡ None → (text : List ℕ) × (o ≡ Some text) × (is_value key text ≡ true)
faultless_value key None e = absurd (none-some _ (sym e))
faultless_value key (Some text) e = by (is_value key text) refl
  where
    by : (b : Bool) → is_value key text ≡ b → (it : List ℕ) × (Some text ≡ Some it) × (is_value key it ≡ true)
    by true is = (text, refl, is)
    by false is = absurd (none-some (bad_value key) (sym e ∙ ap (λ (b : Bool). if b then None else Some (bad_value key)) is))

-- the six values, without a fault
record Values (ls : List Line) : Type 0 where
  namespace : key_fault ls NamespaceId ≡ None
  cluster : key_fault ls ClusterId ≡ None
  ctime : key_fault ls CTime ≡ None
  blockpool : key_fault ls BlockpoolId ≡ None
  layout : key_fault ls LayoutVersion ≡ None

module _ {A : Type 0} where
  behind_three : (a b c : Option A) (rest : List (Option A)) → first_of (a ∷ b ∷ c ∷ rest) ≡ None → first_of rest ≡ None
  behind_three a b c rest e = (none_first c rest (none_first b (c ∷ rest) (none_first a (b ∷ c ∷ rest) e).1).1).1

  each_of_six : (a b c d f g : Option A) → first_of (a ∷ b ∷ c ∷ d ∷ f ∷ g ∷ []) ≡ None → (a ≡ None) × (b ≡ None) × (c ≡ None) × (f ≡ None) × (g ≡ None)
  each_of_six a b c d f g e =
      let first = none_first a (b ∷ c ∷ d ∷ f ∷ g ∷ []) e in
      let second = none_first b (c ∷ d ∷ f ∷ g ∷ []) first.1 in
      let third = none_first c (d ∷ f ∷ g ∷ []) second.1 in
      let fourth = none_first d (f ∷ g ∷ []) third.1 in
      let fifth = none_first f (g ∷ []) fourth.1 in
      (first.0, second.0, third.0, fifth.0, (none_first g [] fifth.1).0)

values_of : (bytes : List ℕ) → fault_of bytes ≡ None → Values (lines bytes)
unfolding fault_of
values_of bytes e =
    let ls = lines bytes in
    let rest = behind_three (when (nat_lt most_version (length bytes)) TooLong) (when (not (list_all is_text_byte bytes)) NotText) (first_of (line_faults ls)) (map (key_fault ls) keys) e in
    let each = each_of_six (key_fault ls NamespaceId) (key_fault ls ClusterId) (key_fault ls CTime) (key_fault ls StorageType) (key_fault ls BlockpoolId) (key_fault ls LayoutVersion) rest in
    record { namespace = each.0; cluster = each.1; ctime = each.2; blockpool = each.3; layout = each.4 }

positive_range : (text : List ℕ) → is_positive text ≡ true → (1 ≤ digits_value 10 text) × (digits_value 10 text ≤ 2147483647)
positive_range text is =
    let parts = and_parts (is_number text) _ is in
    let bounds = and_parts (nat_le 1 (digits_value 10 text)) _ parts.1 in
    (leb-true _ _ bounds.0, leb-true _ _ bounds.1)

number_range : (text : List ℕ) → is_number text ≡ true → digits_value 10 text < 2 ^ 63
number_range text is =
    let some = and_parts (nat_le 1 (length text)) _ is in
    let few = and_parts (nat_le (length text) 19) _ some.1 in
    let small = and_parts (list_all is_ascii_digit text) _ few.1 in
    ltb-true _ _ small.1

layout_range : (text : List ℕ) → is_value LayoutVersion text ≡ true → (neg_ℤ (pos (digits_value 10 (drop 1 text))) <ℤ pos 0) × (negsuc 2147483646 ≤ℤ neg_ℤ (pos (digits_value 10 (drop 1 text))))
layout_range [] is = absurd (true≢false (sym is))
layout_range (sign ∷ digits) is =
    let range = positive_range digits (and_parts (sign == 45) _ is).1 in
    (omega (arith, ints, range), omega (arith, ints, range))

some_and : {A : Type 0} (o : Option A) (a : A) (P : A → Type 0) → o ≡ Some a → P a → IsSomeAnd o P
some_and o a P e p = subst (λ x. IsSomeAnd x P) (sym e) p

pub faultless : FaultlessSays
faultless bytes e =
    let values = values_of bytes e in
    let ls = lines bytes in
    let namespace = faultless_value NamespaceId (value_of NamespaceId ls) values.namespace in
    let cluster = faultless_value ClusterId (value_of ClusterId ls) values.cluster in
    let ctime = faultless_value CTime (value_of CTime ls) values.ctime in
    let blockpool = faultless_value BlockpoolId (value_of BlockpoolId ls) values.blockpool in
    let layout = faultless_value LayoutVersion (value_of LayoutVersion ls) values.layout in
    let positive = positive_range namespace.0 namespace.2 in
    let negative = layout_range layout.0 layout.2 in (
      record {
        namespace = digits_value 10 namespace.0;
        cluster = cluster.0;
        ctime = digits_value 10 ctime.0;
        blockpool = blockpool.0;
        layout = neg_ℤ (pos (digits_value 10 (drop 1 layout.0)));
        some_namespace = positive.0;
        namespace_fits = positive.1;
        cluster_is_word = cluster.2;
        ctime_fits = number_range ctime.0 ctime.2;
        blockpool_is_word = blockpool.2;
        layout_is_negative = negative.0;
        layout_fits = negative.1;
      },
      record {
        sound = e;
        says = record {
          namespace = some_and (value_of NamespaceId ls) namespace.0 _ namespace.1 refl;
          cluster = cluster.1;
          ctime = some_and (value_of CTime ls) ctime.0 _ ctime.1 refl;
          blockpool = blockpool.1;
          layout = some_and (value_of LayoutVersion ls) layout.0 _ layout.1 refl;
        };
      },
    )
