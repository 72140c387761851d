use Rattle.std.proofs.Common.{◌∙◌}
use Rattle.itch_soup.proofs.LoginBytes.{accepted_written, acceptance-spelled}
use Rattle.itch_soup.proofs.packet.LoginAccepted.spelling.Goals as goal

pub returns-clause-bytes : goal.returns-clause-bytes
returns-clause-bytes c =
    let named = rw c.server_session.ensures.field at c.put.ensures.front in
    let numbered = rw (c.number20.ensures, c.value.ensures.value) at c.put-2.ensures.front in
    accepted_written c.put.new.block c.put-2.new.block _ _ (c.put-2.ensures.length ∙ c.put.ensures.length) named numbered

pub returns-clause-spelled : goal.returns-clause-spelled
returns-clause-spelled c =
    acceptance-spelled _ _ c.server_session.ensures.fits c.value.ensures.low c.value.ensures.high
    (returns-clause-bytes c)
