-- The fourteen fields, one after another.
use Rattle.std.proofs.lemmas.List.{append_assoc}
use Rattle.itch_codec.specs.Fields.{joined}
use Rattle.itch_codec.proofs.stocks.Directory.put.Goals as goal

pub returns-clause-bytes : goal.returns-clause-bytes
unfolding joined
returns-clause-bytes c =
    rw (
      c.put_code-10.ensures.bytes,
      c.put_u32-2.ensures.bytes,
      c.put_code-9.ensures.bytes,
      c.put_code-8.ensures.bytes,
      c.put_code-7.ensures.bytes,
      c.put_code-6.ensures.bytes,
      c.put_code-5.ensures.bytes,
      c.put_codes.ensures.bytes,
      c.put_code-4.ensures.bytes,
      c.put_code-3.ensures.bytes,
      c.put_u32.ensures.bytes,
      c.put_code-2.ensures.bytes,
      c.put_code.ensures.bytes,
      c.put_text.ensures.bytes,
    ) (simp append_assoc)
