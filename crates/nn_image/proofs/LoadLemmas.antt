-- From the sections of an image to its messages, and from those to a namespace: what each step of loading finds.
use Rattle.std.proofs.Common.{◌≡◌, ◌≢◌, ℕ, ◌≤◌, length, None, Some, sym, ap, subst, ◌∙◌, inr, arith}
use Rattle.nn_base.specs.Limits.{most_image}
use Rattle.nn_base.specs.Paths.{Bytes}
use Rattle.nn_tree.specs.Namespace.{Namespace}
use Rattle.nn_image.specs.declared.fault.ImageFault.TheVariants.{Field, Tree}
use Rattle.nn_message.specs.Messages.{Content, IsContent}
use Rattle.nn_message.specs.Frame.{Sections, sections_of, body, summary_message, summary_with, summary_of, lengths_of, framed}
use Rattle.nn_message.specs.Spelling.{delimited, ns_info}
use Rattle.nn_image.specs.Image.{content_of, image_of}
use Rattle.nn_image.specs.Imaged.{IsImage}
use Rattle.nn_image.specs.Assembly.{assemble}
use Rattle.nn_image.specs.Faults.{HasSections, HasContent, IsFault, OneImage}
use Rattle.nn_image.proofs.FirstFaultLemmas.{image_whole}
use Rattle.nn_image.proofs.HasLemmas.{framed_short, body_few, lengths_few}
use Rattle.nn_image.proofs.OneImageLemmas.{one_sections}
use Rattle.nn_message.proofs.SpelledContentLemmas.{content_apart}
use Rattle.nn_image.proofs.CompleteAssembly.{one_namespace, none_saved}
use Rattle.nn_image.proofs.SoundAssembly.{assemble_sound}

-- ---- messages

pub strings_few : (bytes : Bytes) (layout : ℕ) (s : Sections) → HasSections bytes layout s → length s.strings ≤ most_image
unfolding lengths_of
strings_few bytes layout s has = omega (arith, lengths_few s (body_few bytes (body s) (summary_message (summary_of layout s)) has.1))

pub messages_found : (bytes : Bytes) (layout : ℕ) (s : Sections) (content : Content) → HasSections bytes layout s → IsContent content → s ≡ sections_of content → HasContent bytes layout content
messages_found bytes layout s content has ranged same = (ranged, subst (HasSections bytes layout) same has)

pub no_messages : (bytes : Bytes) (layout : ℕ) (s : Sections) → HasSections bytes layout s → ((content : Content) → IsContent content → sections_of content ≢ s) → IsFault Field bytes layout
no_messages bytes layout s has none = inr (s, has, λ content found. none content found.0 (sym (one_sections bytes layout layout s (sections_of content) has found.1).cut))

one_content : (bytes : Bytes) (layout mayout : ℕ) (a b : Content) → HasContent bytes layout a → HasContent bytes mayout b → (a ≡ b) × (layout ≡ mayout)
one_content bytes layout mayout a b first second =
    let s = sections_of a in
    let same = one_sections bytes layout mayout s (sections_of b) first.1 second.1 in
    let short = (framed_short bytes (body s) (summary_message (summary_of layout s)) first.1.1).0 in
    (content_apart a b first.0 second.0 (omega (arith, short)) same.cut, same.laid)

pub info_there : (content : Content) (s : Sections) → sections_of content ≡ s → delimited (ns_info content.info) ≡ s.info
unfolding sections_of
info_there content s same = ap (λ (t : Sections). t.info) same

-- ---- the namespace

pub assembled : (bytes : Bytes) (layout : ℕ) (content : Content) (ns : Namespace) → HasContent bytes layout content → assemble content ≡ Some ns → IsImage bytes ns content.info.txid content.info.namespace layout
unfolding image_of summary_with
assembled bytes layout content ns has is =
    let sound = assemble_sound content ns has.0 is in
    record {
      imaged = sound.0;
      labelled = sound.1;
      long = has.0.info.txid;
      named = has.0.info.namespace;
      laid = has.1.0.layout;
      text = has.1.1.1 ∙ ap (λ c. framed (body (sections_of c)) (summary_message (summary_of layout (sections_of c)))) sound.2;
    }

pub not_assembled : (bytes : Bytes) (layout : ℕ) (content : Content) → HasContent bytes layout content → assemble content ≡ None → IsFault Tree bytes layout
not_assembled bytes layout content has none = (
  content,
  has,
  λ ns id namespace is.
      none_saved content none ns id namespace is.imaged (one_content bytes layout layout (content_of ns id namespace) content (image_whole bytes ns id namespace layout is) has).0,
)

pub one_image : OneImage
one_image bytes ns other id jd namespace namesake layout mayout first second =
    let same = one_content bytes layout mayout (content_of ns id namespace) (content_of other jd namesake) (image_whole bytes ns id namespace layout first) (image_whole bytes other jd namesake mayout second) in
    let is = one_namespace ns other id jd namespace namesake first.imaged second.imaged same.0 in
    (is.0, is.1, is.2, same.1)
