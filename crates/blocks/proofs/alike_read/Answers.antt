-- `blocks::alike_read` meets its contract. Assumes nothing.
use mathlib.Core.Path.{ap}
use Prim.Native.Nat.{◌≤◌}
use native.Mathlib.Omega.{arith}
use lib.ListN.{length, take}
use Rattle.rules.specs.declared.Exceptions.{Exceptions}
use Rattle.rules.specs.Translation.{residue_count}
use Rattle.rules.proofs.Trims.{cp_le_r}
use Rattle.places.proofs.Strict.{strict-letters}
use Rattle.blocks.proofs.Blocked.{plain-block, prefix-read, no_exceptions_lem}
use Rattle.blocks.proofs.alike_read.Goals as goal

pub write_translated-requires : goal.write_translated-requires
unfolding residue_count
write_translated-requires c =
    let a = c.args in
    let bases = c.all_bases-plain in
    record {
      reads = record {
        code = c.requires.table_bound.0;
        letters = strict-letters a.block.now c.requires.block_value;
        bases = plain-block a.table a.block.now c.requires.block_value bases.result bases.ensures;
        few = rw c.none.ensures (omega arith);
      };
      room = omega (arith, c.requires.block_len, c.requires.table_bound.1);
    }

pub returns : goal.returns
returns c =
    let a = c.args in
    let wrote = c.write_translated in
    let none = c.none in
    let empty = no_exceptions_lem none.result (ap (λ (e : Exceptions). e.count) none.ensures) in
    let few : c.common_prefix_len.result ≤ length a.own.now = omega (arith, c.common_prefix_len.ensures, cp_le_r (take (length a.own.now) wrote.new.out) a.own.now) in
    record { upper_bound = few; each = prefix-read a.table a.block.now c.requires.block_value a.own.now _ wrote.new.out (length a.own.now) c.common_prefix_len.result c.requires.block_len (rw empty at wrote.ensures) c.common_prefix_len.ensures few }
