-- What the memory objects hold.
use Rattle.std.specs.Prelude.{◌≡◌, ℕ, ◌+◌, ◌-◌, ◌==◌, ◌||◌, Bool, List, [], drop, length, min, max, slice_get}
use Rattle.std.specs.Option.{option_map_or}
use Rattle.std.specs.List.{list_any}
use Rattle.hk_base.specs.Devices.{LAST_COUNT}
use Rattle.hk_base.specs.declared.memory.MemorySource.{MemorySource}
use Rattle.hk_base.specs.declared.memory.MemorySink.{MemorySink}

-- the bytes that a source has still to give
abbrev pub bytes_left : MemorySource → List ℕ
bytes_left source = drop source.at source.bytes.items

-- the next read is one of those that are to fail
abbrev pub read_fails : MemorySource → Bool
read_fails source = list_any (λ n. n == source.reads) source.failing.items

-- how many bytes the next read gives where it doesn't fail: at most what is left, what there is room for, and the cut of this
-- read where there is one, which counts as 1 at least
abbrev pub bytes_given : MemorySource → ℕ → ℕ
bytes_given source room = min (min (option_map_or (max 1) (slice_get source.cuts.items source.reads) room) (length (bytes_left source))) room

-- the next read has the next number, and all else that the source was told stays
abbrev pub SameReading : MemorySource → MemorySource → Type 0
SameReading old new = (new.reads ≡ min (old.reads + 1) LAST_COUNT) × (new.cuts ≡ old.cuts) × (new.failing ≡ old.failing)

-- a new source of these bytes, with these cuts and failing reads
abbrev pub IsNewSource : List ℕ → List ℕ → List ℕ → MemorySource → Type 0
IsNewSource bytes cuts failing source =
    (bytes_left source ≡ bytes) × (source.cuts.items ≡ cuts) × (source.failing.items ≡ failing) × (source.reads ≡ 0) × (source.faults ≡ 0)

-- the bytes that a sink was given
abbrev pub bytes_written : MemorySink → List ℕ
bytes_written sink = sink.bytes.items

-- the next write is one of those that are to fail, or there is no room
abbrev pub write_fails : MemorySink → Bool
write_fails sink = list_any (λ n. n == sink.writes) sink.failing.items || (length sink.bytes.items == sink.room)

-- how many bytes of a piece of this length the next write takes where it doesn't fail
abbrev pub bytes_taken : MemorySink → ℕ → ℕ
bytes_taken sink n = min (sink.room - length sink.bytes.items) n

-- the next write has the next number, and all else that the sink was told stays
abbrev pub SameWriting : MemorySink → MemorySink → Type 0
SameWriting old new = (new.writes ≡ min (old.writes + 1) LAST_COUNT) × (new.room ≡ old.room) × (new.failing ≡ old.failing)

-- a new sink with this room and these failing writes
abbrev pub IsNewSink : ℕ → List ℕ → MemorySink → Type 0
IsNewSink room failing sink =
    (sink.bytes.items ≡ []) × (sink.room ≡ room) × (sink.failing.items ≡ failing) × (sink.writes ≡ 0) × (sink.faults ≡ 0)
