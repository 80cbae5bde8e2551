use Rattle.std.proofs.Common.{◌≡◌, ℕ, sym, ap, ◌∙◌}
use Rattle.std.specs.Prelude.{option_map}
use Rattle.std.proofs.lemmas.Option.{none-some, same_Some}
use Rattle.nn_message.specs.Messages.{NsInfo}
use Rattle.nn_message.specs.Views.{info_of}
use Rattle.nn_message.specs.Frame.{sections_of}
use Rattle.nn_image.specs.Building.{texts_text, inodes_text}
use Rattle.nn_image.proofs.assemble.heads_of.Goals as goal

pub returns-in_err-info-clause-some : goal.returns-in_err-info-clause-some
unfolding sections_of
returns-in_err-info-clause-some c = λ content is info strings inodes.
    absurd (none-some content.info (sym (ap (option_map info_of) c.in_err-info.was) ∙ c.read_ns_info.ensures.again content.info is.info info))

pub returns-in_err-count-clause-some : goal.returns-in_err-count-clause-some
unfolding sections_of
returns-in_err-count-clause-some c = λ content is info strings inodes.
    let count = c.take_strings_head.ensures.again content.text_count (texts_text content.texts) is.text_count strings in
    absurd (none-some count.0 (sym c.in_err-count.was ∙ count.1))

pub returns-in_err-inode-clause-some : goal.returns-in_err-inode-clause-some
unfolding sections_of
returns-in_err-inode-clause-some c = λ content is info strings inodes.
    let heads = c.take_inodes_head.ensures.again (content.last_inode, content.inode_count) (inodes_text content.inodes) (is.last_inode, is.inode_count) inodes in
    absurd (none-some heads.0 (sym c.in_err-inode.was ∙ heads.1))

pub returns-clause-some : goal.returns-clause-some
unfolding sections_of
returns-clause-some c = λ content is info strings inodes.
    let said = same_Some (info_of c.in_ok-info.info) content.info (sym (ap (option_map info_of) c.in_ok-info.was) ∙ c.read_ns_info.ensures.again content.info is.info info) in
    let count = c.take_strings_head.ensures.again content.text_count (texts_text content.texts) is.text_count strings in
    let heads = c.take_inodes_head.ensures.again (content.last_inode, content.inode_count) (inodes_text content.inodes) (is.last_inode, is.inode_count) inodes in
    let both : (c.in_ok-inode.inode, c.in_ok-inode.nodes) ≡ (content.last_inode, content.inode_count) = same_Some _ _ (sym c.in_ok-inode.was ∙ heads.1) ∙ heads.2 in
    record {
      inode = ap (λ (x : ℕ × ℕ). x.0) both;
      block = ap (λ (i : NsInfo). i.block) said;
      stamp = ap (λ (i : NsInfo). i.stamp) said;
      strings = same_Some _ _ (sym c.in_ok-count.was ∙ count.1) ∙ count.2;
      nodes = ap (λ (x : ℕ × ℕ). x.1) both;
      texts = count.3;
      inodes = heads.3;
    }
