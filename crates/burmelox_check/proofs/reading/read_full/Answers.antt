use Rattle.std.proofs.Common.{rules, ◌-◌, length, sym, subst}
use Rattle.std.specs.Io.KnownBytes.{Consumes}
use Rattle.std.proofs.KnownBytes.{Consumes-trans}
use Rattle.burmelox_check.proofs.reading.Steps.{read_added}
use Rattle.burmelox_check.proofs.reading.read_full.Goals as goal

pub loop-count-preserved : goal.loop-count-preserved
loop-count-preserved g c =
    let l = c.loop-count in
    let read = c.in_ok-more in
    let room = length l.bytes - l.count in
    let added = read_added l.count room read.more l.bytes c.read.new.buf l.invariant.0 read.ensures.bound.0 in
    let gone = Consumes-trans _ _ _ _ _ l.invariant.1 read.ensures.bytes.0 in
    (search rules, subst (Consumes _ _) (sym added) gone)
