-- The sessions known by name. A market belongs to one session of its feed, because another day has different messages under the same numbers.
use Rattle.std.specs.Prelude.{ℕ, Bool, true, not, List, Option, None, Some, is_some, if◌then◌else◌}
use Rattle.std.specs.Option.{option_or}
use Rattle.std.specs.Str.{bytes_eq}
use Rattle.itch_soup.specs.Names.{session_name}
use Rattle.itch_live.specs.declared.news.ServerKind.{ServerKind}
use Rattle.itch_live.specs.declared.news.ServerKind.TheVariants as source
use Rattle.itch_live.specs.declared.sessions.Sessions.{Sessions}

-- the session that a server must serve, if it is known: the feed's, unless the snapshot server has another name for it
abbrev pub expected : Sessions → ServerKind → Option (List ℕ)
expected known source.Live = known.feed
expected known source.Glimpse = option_or known.glimpse known.feed

-- the name under which a login was accepted, if another one was expected; spaces around the names do not count
abbrev pub other_name : Option (List ℕ) → Option (List ℕ) → Option (List ℕ)
other_name (Some wanted) (Some named) = if bytes_eq (session_name wanted) (session_name named) then None else Some named
other_name wanted named = None

-- a server uses the feed's name for the session, unless it is a snapshot server with another name for it
abbrev pub names_feed : Sessions → ServerKind → Bool
names_feed known source.Live = true
names_feed known source.Glimpse = not (is_some known.glimpse)

-- the known sessions after a login was accepted under this name: the feed's session is the first one named, and does not change
abbrev pub known_after : Sessions → ServerKind → Option (List ℕ) → Sessions
known_after known from named = if names_feed known from then record known { feed = option_or known.feed named } else known
