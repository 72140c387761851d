use Rattle.std.proofs.Common.{Ok}
use Rattle.std.proofs.lemmas.Result.{err_from_is_err_and}
use Rattle.itch_frame.specs.Reading.{bytes_left}
use Rattle.itch_snapshot.proofs.ReadSteps.{first_fault, later_fault, no_fault}
use Rattle.itch_snapshot.proofs.KnownFiles.{reads_file, reads_fault, reads_market}
use Rattle.itch_snapshot.proofs.read.read_snapshot.Goals as goal

pub returns-in_err-read-clause-steps : goal.returns-in_err-read-clause-steps
returns-in_err-read-clause-steps g c =
    let p = err_from_is_err_and c.from_residual.result c.from_residual.ensures.1 in
    rw (p.1, p.2) (first_fault _ _ _ c.in_err-read.ensures.steps)

pub returns-in_err-read-clause-file : goal.returns-in_err-read-clause-file
returns-in_err-read-clause-file g c = reads_file _ _ _ (returns-in_err-read-clause-steps g c)

pub returns-in_err-read-clause-fault : goal.returns-in_err-read-clause-fault
returns-in_err-read-clause-fault g c = reads_fault _ _ _ (returns-in_err-read-clause-steps g c)

pub returns-in_err-read_end-clause-steps : goal.returns-in_err-read_end-clause-steps
returns-in_err-read_end-clause-steps g c =
    let p = err_from_is_err_and c.from_residual-in_err-read_end.result c.from_residual-in_err-read_end.ensures.1 in
    rw (p.1, p.2) (later_fault _ _ _ _ _ c.in_ok-read.ensures.steps c.in_err-read_end.ensures.step)

pub returns-in_err-read_end-clause-file : goal.returns-in_err-read_end-clause-file
returns-in_err-read_end-clause-file g c = reads_file _ _ _ (returns-in_err-read_end-clause-steps g c)

pub returns-in_err-read_end-clause-fault : goal.returns-in_err-read_end-clause-fault
returns-in_err-read_end-clause-fault g c = reads_fault _ _ _ (returns-in_err-read_end-clause-steps g c)

pub returns-clause-steps : goal.returns-clause-steps
returns-clause-steps g c = no_fault _ _ _ _ c.in_ok-read.ensures.steps c.in_ok-read_end.ensures.step

pub returns-clause-file : goal.returns-clause-file
returns-clause-file g c =
    reads_file (bytes_left g.R.CountedRead.remaining c.args.reader.now) (bytes_left g.R.CountedRead.remaining c.read_end.new.reader) (Ok c.in_ok-read.read) (returns-clause-steps g c)

pub returns-clause-market : goal.returns-clause-market
returns-clause-market g c =
    reads_market (bytes_left g.R.CountedRead.remaining c.args.reader.now) (bytes_left g.R.CountedRead.remaining c.read_end.new.reader) (Ok c.in_ok-read.read) (returns-clause-steps g c)
