-- `reuse::writing::write_reusing` meets its contract: the rest goes into the part of the buffer behind the head. Assumes nothing.
use Rattle.rules.specs.Altered.{part}
use Rattle.reuse.specs.Reusing.{read_by}
use Rattle.reuse.proofs.Reusing.{front-room, resumes, all-long, all-written, all-behind}
use borrow.Author.Rules.{rules}
use Rattle.reuse.proofs.writing.write_reusing.Goals as goal

pub copy-requires : goal.copy-requires
copy-requires c = let args = c.args in
    front-room args.table args.transcript.now args.protein.now args.altered.now args.pieces args.plain args.none c.requires

pub write_resumed-read-requires : goal.write_resumed-read-requires
write_resumed-read-requires c = let args = c.args in
    let copy = c.copy in
    resumes args.table args.transcript.now args.protein.now args.altered.now args.pieces args.plain args.none c.requires copy.new.dst copy.ensures.after

pub overflow_add-result : goal.overflow_add-result
overflow_add-result c = let args = c.args in
    let copy = c.copy in
    let wrote = c.write_resumed-read in
    let long = all-long args.table args.transcript.now args.protein.now args.altered.now args.pieces args.plain args.none c.requires copy.new.dst copy.ensures.after wrote.result.residues wrote.new.out wrote.ensures.residues_value wrote.ensures.written in
    let short = c.requires.short in
    search rules

pub returns : goal.returns
unfolding read_by part
returns c = let args = c.args in
    let copy = c.copy in
    let wrote = c.write_resumed-read in
    record { residues_value = all-long args.table args.transcript.now args.protein.now args.altered.now args.pieces args.plain args.none c.requires copy.new.dst copy.ensures.after wrote.result.residues wrote.new.out wrote.ensures.residues_value wrote.ensures.written; looked = wrote.ensures.looked; behind = all-behind args.table args.transcript.now args.protein.now args.altered.now args.pieces args.plain args.none c.requires copy.new.dst copy.ensures.after wrote.result.residues wrote.new.out wrote.ensures.residues_value wrote.ensures.written wrote.result.behind wrote.ensures.behind; written = all-written args.table args.transcript.now args.protein.now args.altered.now args.pieces args.plain args.none c.requires copy.new.dst copy.ensures.after wrote.result.residues wrote.new.out wrote.ensures.residues_value wrote.ensures.written }
