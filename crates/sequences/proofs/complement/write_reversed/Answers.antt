-- `sequences::complement::write_reversed` meets its contract. The invariant: writing the complements that are left gives the whole.
use mathlib.Core.Path.{refl}
use borrow.Author.Rules.{rules}
use lib.ListN.{length-set}
use Rattle.rules.specs.Letters.{is_letter}
use Rattle.rules.proofs.Lists.{all_at}
use Rattle.sequences.proofs.complement.Laws.{put-start, put-letter, put_last}
use Rattle.sequences.proofs.complement.write_reversed.Goals as goal

pub loop-i-init : goal.loop-i-init
loop-i-init c = (refl, put-start _ _)

pub complement_of-requires : goal.complement_of-requires
complement_of-requires c = record { holds_complements = search rules; b_value = all_at is_letter c.args.seq.now _ c.requires.seq_value (search rules) }

pub loop-i-preserved : goal.loop-i-preserved
loop-i-preserved c = (
  simp length-set c.loop-i.invariant.0,
  put-letter c.args.seq.now c.loop-i.out c.loop-i.i _ _ (search rules) (search rules) c.complement_of.ensures c.loop-i.invariant.1,
)

pub returns : goal.returns
returns c = put_last c.args.seq.now _ _ _ (search rules) c.loop-i.invariant.1
