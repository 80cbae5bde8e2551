-- How far bytes are an image, and that each fault tells exactly how far.
use Rattle.std.proofs.Common.{◌≡◌, ◌≢◌, ℕ, zero, suc, ◌+◌, ◌-◌, ◌<◌, ◌≤◌, true, false, ◌++◌, take, refl, sym, ap, subst, ◌∙◌, inl, inr, append_assoc, arith}
use Rattle.std.specs.Prelude.{is_some}
use Rattle.std.proofs.lemmas.Bool.{cases_order}
use Rattle.std.proofs.lemmas.List.{take_at}
use Rattle.nn_base.specs.Paths.{Bytes}
use Rattle.nn_tree.specs.Namespace.{Namespace}
use Rattle.nn_image.specs.declared.fault.ImageFault.{ImageFault}
use Rattle.nn_image.specs.declared.fault.ImageFault.TheVariants.{TooLarge, Magic, Short, Field, Codec, Layout, Section, Tree, Memory}
use Rattle.nn_message.specs.Messages.{Content}
use Rattle.nn_message.specs.Frame.{magic, end, framed, Sections, sections_of, body, Summary, IsSummary, summary_message, summary_with, summary_of, lengths_of}
use Rattle.nn_image.specs.Image.{content_of, image_of}
use Rattle.nn_image.specs.Imaged.{IsImage}
use Rattle.nn_image.specs.Faults.{IsSmall, IsMarked, IsFramed, HasSummary, IsPlain, HasSections, HasContent, IsFault, OneFault, NoFaultOfAnImage}
use Rattle.nn_image.proofs.HasLemmas.{one_framed, one_has, lengths_few, some_sections, body_few}
use Rattle.nn_image.proofs.ContentLemmas.{content_in_range}
use Rattle.nn_image.proofs.SmallLemmas.{image_is_small}

-- ---- how far: what holds at a level holds at each below it

abbrev Far : Bytes → ℕ → ℕ → Type 0
Far bytes layout zero = Unit {0}
Far bytes layout (suc zero) = IsSmall bytes
Far bytes layout (suc (suc zero)) = IsMarked bytes
Far bytes layout (suc (suc (suc zero))) = (text : Bytes) × (summary : Bytes) × IsFramed bytes text summary
Far bytes layout (suc (suc (suc (suc zero)))) = (text : Bytes) × (summary : Summary) × HasSummary bytes text summary
Far bytes layout (suc (suc (suc (suc (suc zero))))) = (text : Bytes) × (summary : Summary) × IsPlain bytes text summary
Far bytes layout (suc (suc (suc (suc (suc (suc zero)))))) = (text : Bytes) × (summary : Summary) × IsPlain bytes text summary × (summary.layout ≡ layout)
Far bytes layout (suc (suc (suc (suc (suc (suc (suc zero))))))) = (sections : Sections) × HasSections bytes layout sections
Far bytes layout (suc (suc (suc (suc (suc (suc (suc (suc zero)))))))) = (content : Content) × HasContent bytes layout content
Far bytes layout (suc (suc (suc (suc (suc (suc (suc (suc (suc more))))))))) = (ns : Namespace) × (id : ℕ) × (namespace : ℕ) × IsImage bytes ns id namespace layout

marked : (bytes text summary : Bytes) → IsFramed bytes text summary → IsMarked bytes
unfolding framed
marked bytes text summary is = (is.0, ap (take 8) (is.1 ∙ append_assoc magic text (end summary)) ∙ take_at magic (text ++ end summary) 8 refl)

plain : (bytes : Bytes) (layout : ℕ) (s : Sections) → HasSections bytes layout s → IsPlain bytes (body s) (summary_of layout s) × ((summary_of layout s).layout ≡ layout)
unfolding summary_with
plain bytes layout s has = ((has, refl), refl)

pub image_whole : (bytes : Bytes) (ns : Namespace) (id namespace layout : ℕ) → IsImage bytes ns id namespace layout → HasContent bytes layout (content_of ns id namespace)
unfolding image_of
image_whole bytes ns id namespace layout is =
    let small = image_is_small bytes ns id namespace layout is in
    let s = sections_of (content_of ns id namespace) in (
      content_in_range ns id namespace is.imaged is.labelled is.long is.named,
      (some_sections layout (lengths_of s) is.laid (lengths_few s (body_few bytes (body s) (summary_message (summary_of layout s)) (small, is.text))), (small, is.text)),
    )

down : (bytes : Bytes) (layout level : ℕ) → Far bytes layout (suc level) → Far bytes layout level
down bytes layout zero far = tt
down bytes layout (suc zero) far = far.0
down bytes layout (suc (suc zero)) far = marked bytes far.0 far.1 far.2
down bytes layout (suc (suc (suc zero))) far = (far.0, summary_message far.1, far.2.1)
down bytes layout (suc (suc (suc (suc zero)))) far = (far.0, far.1, far.2.0)
down bytes layout (suc (suc (suc (suc (suc zero))))) far = (far.0, far.1, far.2)
down bytes layout (suc (suc (suc (suc (suc (suc zero)))))) far = let is = plain bytes layout far.0 far.1 in (body far.0, summary_of layout far.0, is.0, is.1)
down bytes layout (suc (suc (suc (suc (suc (suc (suc zero))))))) far = (sections_of far.0, far.1.1)
down bytes layout (suc (suc (suc (suc (suc (suc (suc (suc zero)))))))) far = (content_of far.0 far.1 far.2, image_whole bytes far.0 far.1 far.2 layout far.3)
down bytes layout (suc (suc (suc (suc (suc (suc (suc (suc (suc more))))))))) far = far

down_by : (bytes : Bytes) (layout level steps : ℕ) → Far bytes layout (steps + level) → Far bytes layout level
down_by bytes layout level zero far = let same : zero + level ≡ level = omega arith in subst (Far bytes layout) same far
down_by bytes layout level (suc steps) far =
    let same : suc steps + level ≡ suc (steps + level) = omega arith in
    down_by bytes layout level steps (down bytes layout (steps + level) (subst (Far bytes layout) same far))

down_to : (bytes : Bytes) (layout low high : ℕ) → low ≤ high → Far bytes layout high → Far bytes layout low
down_to bytes layout low high below far = let same : high ≡ high - low + low = omega arith in down_by bytes layout low (high - low) (subst (Far bytes layout) same far)

-- ---- the fault of each level

told : ℕ → ℕ → ImageFault
told found zero = TooLarge
told found (suc zero) = Magic
told found (suc (suc zero)) = Short
told found (suc (suc (suc zero))) = Field
told found (suc (suc (suc (suc zero)))) = Codec
told found (suc (suc (suc (suc (suc zero))))) = Layout found
told found (suc (suc (suc (suc (suc (suc zero)))))) = Section
told found (suc (suc (suc (suc (suc (suc (suc zero))))))) = Field
told found (suc (suc (suc (suc (suc (suc (suc (suc more)))))))) = Tree

-- The bytes are an image as far as a level, and no further; this is the fault of that.
record Stops (fault : ImageFault) (bytes : Bytes) (layout : ℕ) : Type 0 where
  level : ℕ
  found : ℕ
  fault_is : fault ≡ told found level
  low : level ≤ 8
  far : Far bytes layout level
  no_further : ¬ Far bytes layout (suc level)
  says : level ≡ 5 → (text : Bytes) × (summary : Summary) × HasSummary bytes text summary × (summary.layout ≡ found)

no_summary : (bytes text message : Bytes) → IsFramed bytes text message → ((summary : Summary) → IsSummary summary → message ≢ summary_message summary) → (other : Bytes) (summary : Summary) → ¬ HasSummary bytes other summary
no_summary bytes text message is none other summary has = none summary has.0 (one_framed bytes text other message (summary_message summary) is has.1).1

codec_there : (bytes text other : Bytes) (s t : Summary) → HasSummary bytes text s → is_some s.codec ≡ true → ¬ IsPlain bytes other t
codec_there bytes text other s t has codec is =
    let same = (one_has bytes text other s t has is.0).alike.codec in
    let none : true ≡ false = sym codec ∙ same ∙ ap is_some is.1 in
    absurd cc

one_layout : (bytes text other : Bytes) (s t : Summary) → HasSummary bytes text s → HasSummary bytes other t → s.layout ≡ t.layout
one_layout bytes text other s t first second = (one_has bytes text other s t first second).alike.layout

stops : (fault : ImageFault) (bytes : Bytes) (layout : ℕ) → fault ≢ Memory → IsFault fault bytes layout → Stops fault bytes layout
unfolding told
stops TooLarge bytes layout other is = record { level = 0; found = 0; fault_is = refl; low = omega arith; far = tt; no_further = is; says = λ e. absurd (omega (arith, e)) }
stops Magic bytes layout other is = record { level = 1; found = 0; fault_is = refl; low = omega arith; far = is.0; no_further = is.1; says = λ e. absurd (omega (arith, e)) }
stops Short bytes layout other is = record { level = 2; found = 0; fault_is = refl; low = omega arith; far = is.0; no_further = λ far. is.1 far.0 far.1 far.2; says = λ e. absurd (omega (arith, e)) }
stops Field bytes layout other (inl is) = record {
  level = 3;
  found = 0;
  fault_is = refl;
  low = omega arith;
  far = (is.0, is.1, is.2);
  no_further = λ far. no_summary bytes is.0 is.1 is.2 is.3 far.0 far.1 far.2;
  says = λ e. absurd (omega (arith, e));
}
stops Field bytes layout other (inr is) = record { level = 7; found = 0; fault_is = refl; low = omega arith; far = (is.0, is.1); no_further = λ far. is.2 far.0 far.1; says = λ e. absurd (omega (arith, e)) }
stops Codec bytes layout other is = record {
  level = 4;
  found = 0;
  fault_is = refl;
  low = omega arith;
  far = (is.0, is.1, is.2);
  no_further = λ far. codec_there bytes is.0 far.0 is.1 far.1 is.2 is.3 far.2;
  says = λ e. absurd (omega (arith, e));
}
stops (Layout found) bytes layout other is = record {
  level = 5;
  found = found;
  fault_is = refl;
  low = omega arith;
  far = (is.0, is.1, is.2);
  no_further = λ far. is.4 (sym is.3 ∙ one_layout bytes is.0 far.0 is.1 far.1 is.2.0 far.2.0 ∙ far.3);
  says = λ e. (is.0, is.1, is.2.0, is.3);
}
stops Section bytes layout other is = record { level = 6; found = 0; fault_is = refl; low = omega arith; far = (is.0, is.1, is.2, is.3); no_further = λ far. is.4 far.0 far.1; says = λ e. absurd (omega (arith, e)) }
stops Tree bytes layout other is = record { level = 8; found = 0; fault_is = refl; low = omega arith; far = (is.0, is.1); no_further = λ far. is.2 far.0 far.1 far.2 far.3; says = λ e. absurd (omega (arith, e)) }
stops Memory bytes layout other is = absurd (other refl)

-- ---- there is one such level

one_level : (bytes : Bytes) (layout low high : ℕ) → ¬ Far bytes layout (suc low) → Far bytes layout high → ¬ (low < high)
one_level bytes layout low high no_further far below = no_further (down_to bytes layout (suc low) high (omega (arith, below)) far)

same_told : (found other level : ℕ) → (level ≡ 5 → found ≡ other) → told found level ≡ told other level
unfolding told
same_told found other zero same = refl
same_told found other (suc zero) same = refl
same_told found other (suc (suc zero)) same = refl
same_told found other (suc (suc (suc zero))) same = refl
same_told found other (suc (suc (suc (suc zero)))) same = refl
same_told found other (suc (suc (suc (suc (suc zero))))) same = ap (λ n. Layout n) (same refl)
same_told found other (suc (suc (suc (suc (suc (suc zero)))))) same = refl
same_told found other (suc (suc (suc (suc (suc (suc (suc zero))))))) same = refl
same_told found other (suc (suc (suc (suc (suc (suc (suc (suc more)))))))) same = refl

one_stop : (f g : ImageFault) (bytes : Bytes) (layout : ℕ) → Stops f bytes layout → Stops g bytes layout → f ≡ g
one_stop f g bytes layout s t =
    let level : s.level ≡ t.level = elim (cases_order s.level t.level) [
      | inl same ↦ same
      | inr (inl below) ↦ absurd (one_level bytes layout s.level t.level s.no_further t.far below)
      | inr (inr above) ↦ absurd (one_level bytes layout t.level s.level t.no_further s.far above)
    ] in
    let found = λ (e : s.level ≡ 5).
    let a = s.says e in
    let b = t.says (sym level ∙ e) in
    sym a.3 ∙ one_layout bytes a.0 b.0 a.1 b.1 a.2 b.2 ∙ b.3 in
    s.fault_is ∙ same_told s.found t.found s.level found ∙ ap (told t.found) level ∙ sym t.fault_is

pub first_fault : OneFault
first_fault f g bytes layout f_other g_other f_is g_is = one_stop f g bytes layout (stops f bytes layout f_other f_is) (stops g bytes layout g_other g_is)

pub none_of_an_image : NoFaultOfAnImage
none_of_an_image f bytes ns id namespace layout other is fault =
    let s = stops f bytes layout other fault in
    s.no_further (down_to bytes layout (suc s.level) 9 (omega (arith, s.low)) (ns, id, namespace, is))
