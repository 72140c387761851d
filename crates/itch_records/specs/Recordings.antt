-- The record of a feed as a writer.
use Rattle.std.specs.Prelude.{◌≡◌, ℕ, List, [], Option, None}
use Rattle.std.specs.Io.KnownBytes.{Keeps}
use Rattle.std.specs.Io.Buffered.{writer_buffer, writer_contents}
use Rattle.itch_frame.specs.declared.tally.Failures.{Failures}
use Rattle.itch_records.specs.declared.recording.Recording.{Recording}
use Rattle.itch_records.specs.declared.recording.Recording.TheVariants.{Nowhere, File}

-- its bytes, if the bytes of its file are known
abbrev pub contents_of : {F : Type 0} → (F → Option (List ℕ)) → Recording F → Option (List ℕ)
contents_of contents (Nowhere failures) = None
contents_of contents (File file failures added) = writer_contents contents file

-- its failures
abbrev pub failures_of : {F : Type 0} → Recording F → Failures
failures_of (Nowhere failures) = failures
failures_of (File file failures added) = failures

-- none of its bytes are held back from its file
abbrev pub IsFlushed : {F : Type 0} → Recording F → Type 0
IsFlushed (Nowhere failures) = Unit {0}
IsFlushed (File file failures added) = writer_buffer file ≡ []

-- the same record, with the same bytes, or none as before
abbrev pub IsSame : {F : Type 0} → (F → Option (List ℕ)) → Recording F → Recording F → Type 0
IsSame contents (Nowhere failures) (Nowhere later) = later ≡ failures
IsSame contents (Nowhere failures) (File file later added) = ⊥
IsSame contents (File file failures added) (Nowhere later) = ⊥
IsSame contents (File file failures added) (File written later more) =
    Keeps (writer_contents contents file) (writer_contents contents written) × (later ≡ failures) × (more ≡ added)
