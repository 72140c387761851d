use Rattle.std.proofs.Common.{◌++◌, None, Some, refl, ap, ◌∙◌, arith}
use Rattle.itchsnap_c.proofs.PassedBlocks.{late_found, none_found}
use Rattle.itchsnap_c.proofs.times.bytes_before.Goals as goal

pub returns-in-Late : goal.returns-in-Late
returns-in-Late c =
    late_found _ _ _ (record { count = 0; last = None }) refl (λ r. refl) c.args.blocks.now (omega arith) c.args.time c.in_ok-reader.reader c.read_part.new.reader (ap (λ h. Some (h ++ c.in_ok-reader.reader.reader.rest.now)) c.in_ok-reader.ensures.1 ∙ ap (λ s. Some s.rest.now) c.in_ok-reader.ensures.0)
    c.read_part.new.count _ c.read_part.new.sink c.new-2.ensures c.read_part.result c.read_part.ensures.reads c.in-Late.is

pub returns : goal.returns
returns c =
    none_found _ _ _ (record { count = 0; last = None }) refl (λ r. refl) c.args.blocks.now (omega arith) c.args.time c.in_ok-reader.reader c.read_part.new.reader (ap (λ h. Some (h ++ c.in_ok-reader.reader.reader.rest.now)) c.in_ok-reader.ensures.1 ∙ ap (λ s. Some s.rest.now) c.in_ok-reader.ensures.0)
    c.read_part.new.count _ c.read_part.new.sink c.new-2.ensures c.read_part.result c.read_part.ensures.reads c.in_default.not-Late
