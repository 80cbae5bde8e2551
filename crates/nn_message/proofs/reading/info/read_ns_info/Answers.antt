use Rattle.std.proofs.Common.{◌≡◌, ◌^◌, ◌<◌, length, Option, Some, None, sym, ap, ◌∙◌, arith}
use Rattle.std.specs.Prelude.{IfSome, option_map}
use Rattle.nn_base.specs.Paths.{Bytes}
use Rattle.nn_message.specs.declared.view.InfoView.{InfoView}
use Rattle.nn_message.specs.Messages.{IsNsInfo}
use Rattle.nn_message.specs.Spelling.{delimited, ns_info}
use Rattle.nn_message.specs.Reading.{Anywhere, whole}
use Rattle.nn_message.specs.MessageReading.{info_section_at}
use Rattle.nn_message.specs.Views.{info_of}
use Rattle.nn_message.proofs.SpellsLemmas.{whole_exact, whole_again}
use Rattle.nn_message.proofs.MessageLemmas.{Spells-info_section}
use Rattle.nn_message.proofs.reading.info.read_ns_info.Goals as goal

info_some : (result : Option InfoView) (section : Bytes) → option_map info_of result ≡ whole info_section_at section → IfSome result (λ view. IsNsInfo (info_of view) × (section ≡ delimited (ns_info (info_of view))))
info_some None section e = tt
info_some (Some view) section e = whole_exact info_section_at (λ i. delimited (ns_info i)) IsNsInfo Anywhere Spells-info_section section (info_of view) (sym e)

pub returns-clause-some : goal.returns-clause-some
returns-clause-some c = info_some c.read_section.result c.args.section.now c.read_section.ensures

pub returns-clause-again : goal.returns-clause-again
returns-clause-again c info is e =
    let short : length c.args.section.now < 2 ^ 64 = omega arith in
    c.read_section.ensures ∙ ap (whole info_section_at) e ∙ whole_again info_section_at (λ i. delimited (ns_info i)) IsNsInfo Anywhere Spells-info_section tt info is (omega (arith, short, ap length e))
