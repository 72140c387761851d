-- The remaining bytes of an opened file.
use Rattle.std.specs.Prelude.{ℕ, List, Option}
use Rattle.itchsnap_cli.specs.declared.input.input_stream.InputStream.{InputStream}
use Rattle.itchsnap_cli.specs.declared.input.input_stream.InputStream.TheVariants.{File, Standard}

-- the bytes of all later reads: those of the file, or those of standard input
abbrev pub stream_remaining : {F I : Type 0} → (F → Option (List ℕ)) → (I → Option (List ℕ)) → InputStream F I → Option (List ℕ)
stream_remaining of_file of_input (File file) = of_file file
stream_remaining of_file of_input (Standard input) = of_input input
