-- `text_verbs::parse_verb` meets its contract. Assumes nothing.
use mathlib.Core.Path.{◌∙◌}
use Rattle.text_verbs.proofs.Verbs.{verb-word, verb-based}
use Rattle.text_verbs.proofs.parse_verb.Goals as goal

pub returns-in-Some-clause-result_value : goal.returns-in-Some-clause-result_value
returns-in-Some-clause-result_value c = verb-word c.args.line.now c.args.at _ c.word_kind.ensures _ c.in-Some.is

pub returns-in-None-clause-result_value : goal.returns-in-None-clause-result_value
returns-in-None-clause-result_value c = c.parse_base_verb.ensures.result_value ∙ verb-based c.args.line.now c.args.at _ c.word_kind.ensures c.in-None.is
