use Rattle.std.proofs.Common.{◌∙◌}
use Rattle.itch_soup.proofs.LoginBytes.{written, login-spelled}
use Rattle.itch_soup.proofs.packet.LoginRequest.spelling.Goals as goal

pub returns-clause-bytes : goal.returns-clause-bytes
returns-clause-bytes c =
    let named = rw c.bytes.ensures.bytes at c.put.ensures.front in
    let passed = rw c.bytes-2.ensures.bytes at c.put-2.ensures.front in
    let asked = rw c.client_session.ensures.field at c.put-3.ensures.front in
    let numbered = rw c.number20.ensures at c.put-4.ensures.front in
    written c.put.new.block c.put-2.new.block c.put-3.new.block c.put-4.new.block _ _ _ _ (c.put-4.ensures.length ∙ c.put-3.ensures.length ∙ c.put-2.ensures.length ∙ c.put.ensures.length) named passed asked numbered

pub returns-clause-spelled : goal.returns-clause-spelled
returns-clause-spelled c =
    login-spelled _ _ (c.bytes.ensures.width, c.bytes.ensures.printable) (c.bytes-2.ensures.width, c.bytes-2.ensures.printable)
    c.client_session.ensures.fits c.requires (returns-clause-bytes c)
