-- The first bytes of files that hold a day file in another form.
use Rattle.std.specs.Prelude.{ℕ, Bool, cond, ◌||◌, nat_eq, List, [], ◌∷◌, Option, Some, None}
use Rattle.std.specs.List.{starts_with}
use Rattle.itchsnap_cli.specs.declared.input.container.ContainerFormat.{ContainerFormat}
use Rattle.itchsnap_cli.specs.declared.input.container.ContainerFormat.TheVariants.{Gzip, Bzip2, Zstd, Xz, Lz4, Zip, Capture}

-- a file begins with this magic number
abbrev pub begins : List ℕ → List ℕ → Bool
begins magic bytes = starts_with nat_eq bytes magic

-- the magic numbers of pcap, for microseconds and for nanoseconds, with the high or the low byte first, and that of pcapng
abbrev pub is_capture : List ℕ → Bool
is_capture bytes =
    begins (161 ∷ 178 ∷ 195 ∷ 212 ∷ []) bytes || (begins (212 ∷ 195 ∷ 178 ∷ 161 ∷ []) bytes
    || (begins (161 ∷ 178 ∷ 60 ∷ 77 ∷ []) bytes || (begins (77 ∷ 60 ∷ 178 ∷ 161 ∷ []) bytes || begins (10 ∷ 13 ∷ 13 ∷ 10 ∷ []) bytes)))

-- the form of a file with these first bytes: gzip (RFC 1952), bzip2, zstd (RFC 8878), xz, a frame of lz4, zip, or captured packets
abbrev pub container_format_of : List ℕ → Option ContainerFormat
container_format_of bytes =
    cond (begins (31 ∷ 139 ∷ []) bytes) (Some Gzip)
    (cond (begins (66 ∷ 90 ∷ 104 ∷ []) bytes) (Some Bzip2)
    (cond (begins (40 ∷ 181 ∷ 47 ∷ 253 ∷ []) bytes) (Some Zstd)
    (cond (begins (253 ∷ 55 ∷ 122 ∷ 88 ∷ 90 ∷ 0 ∷ []) bytes) (Some Xz)
    (cond (begins (4 ∷ 34 ∷ 77 ∷ 24 ∷ []) bytes) (Some Lz4)
    (cond (begins (80 ∷ 75 ∷ 3 ∷ 4 ∷ []) bytes) (Some Zip)
    (cond (is_capture bytes) (Some Capture) None))))))
