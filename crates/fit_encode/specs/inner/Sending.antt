-- Bytes on their way to a sink.
use Rattle.std.specs.Prelude.{◌≡◌, ℕ, ◌+◌, ◌<◌, ◌^◌, Bool, true, false, List, [], ◌++◌, Option, Result, Ok, Err, length}
use Rattle.std.specs.Io.KnownBytes.{Appends}
use Rattle.fit_encode.specs.Sinks.{Written}

-- The bytes of a file that went out, those that are held back for the next put, how many went out in all, with those
-- of earlier files, and for how many more there is room.
pub record Sending : Type 0 where
  pub sent : List ℕ
  pub held : List ℕ
  pub count : ℕ
  pub room : ℕ

-- a sink, by what tells its bytes and what tells whether a call failed
abbrev pub sink_state : {S : Type 0} → (S → Option (List ℕ)) → (S → Bool) → S → Written
sink_state contents has_failed sink = record { held = contents sink; failed = has_failed sink }

-- the count after that many bytes more, where it has room for it
abbrev pub IsCounted : ℕ → ℕ → ℕ → Type 0
IsCounted old more new = old + more < 2 ^ 64 → new ≡ old + more

-- The bytes were spelled after the held ones, and of all these some went out, from the front. A sink that took some, or
-- that hadn't failed, hasn't failed now.
pub record Spells (before after : Written) (old new : Sending) (bytes : List ℕ) : Type 0 where
  pub went : List ℕ
  pub appended : Appends before.held after.held went
  pub sent : new.sent ≡ old.sent ++ went
  pub joined : went ++ new.held ≡ old.held ++ bytes
  pub total : IsCounted old.count (length went) new.count
  pub works : 0 < length went → after.failed ≡ false
  pub keeps : before.failed ≡ false → after.failed ≡ false

-- The sink failed after some bytes from the front of the held ones and these, and not after all of them.
pub record Breaks (before after : Written) (old : Sending) (bytes : List ℕ) (written : ℕ) : Type 0 where
  pub went : List ℕ
  pub rest : List ℕ
  pub appended : Appends before.held after.held went
  pub joined : went ++ rest ≡ old.held ++ bytes
  pub some : 0 < length rest
  pub total : IsCounted old.count (length went) written
  pub stopped : after.failed ≡ true

-- what a call that spells these bytes leaves, by its answer
abbrev pub Sends : {T : Type 0} → Written → Written → Sending → Sending → List ℕ → Result T ℕ → Type 0
Sends before after old new bytes (Ok _) = Spells before after old new bytes
Sends before after old new bytes (Err written) = Breaks before after old bytes written

-- nothing of a file is spelled, and that many bytes went out before it
abbrev pub fresh : ℕ → Sending
fresh count = record { sent = []; held = []; count = count; room = 4096 }

-- What a call that puts all these bytes leaves, by its answer. That many bytes went out before, and it counts on.
abbrev pub PutsAll : Written → Written → ℕ → List ℕ → Result ℕ ℕ → Type 0
PutsAll before after count bytes (Ok total) =
    Appends before.held after.held bytes × IsCounted count (length bytes) total × (0 < length bytes → after.failed ≡ false)
PutsAll before after count bytes (Err written) = Breaks before after (fresh count) bytes written
