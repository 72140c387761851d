-- When a password file is read again.
use Rattle.std.specs.Prelude.{◌==◌, ◌&&◌, Bool, Option, None, Some, if◌then◌else◌}
use Rattle.itch_sessions.specs.declared.login_file.Version.{Version}
use Rattle.itch_sessions.specs.declared.login_file.Sight.{Sight}
use Rattle.itch_sessions.specs.declared.login_file.Sight.TheVariants as sight
use Rattle.itch_sessions.specs.declared.login_file.Look.{Look}
use Rattle.itch_sessions.specs.declared.login_file.Look.TheVariants as look

-- the same file with the same length, which was not changed in between
abbrev pub is_same_version : Version → Version → Bool
is_same_version read version =
    read.device == version.device && read.inode == version.inode && read.length == version.length && read.seconds == version.seconds && read.nanoseconds == version.nanoseconds

-- a file is read if its version differs from the one that was read; its loss is reported once
abbrev pub look_of : Sight → Option Version → Look
look_of sight.Lost None = look.Same
look_of (sight.Read read) None = look.Loses
look_of (sight.Read read) (Some version) = if is_same_version read version then look.Same else look.Read version
look_of sight.Lost (Some version) = look.Read version
