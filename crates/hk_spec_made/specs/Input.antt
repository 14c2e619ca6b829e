-- The input that `make` replays: songs and prints drawn from a seed, as records.
use Rattle.std.specs.Prelude.{ℕ, zero, suc, ◌+◌, ◌*◌, ◌/◌, ◌%◌, ◌^◌, List, [], ◌∷◌, ◌++◌, map, length, take, drop, sum, sum_by, flat_map, codes, bit_xor, slice_index}
use Rattle.std.specs.Int.{w16, w32, to_be_bytes}
use Rattle.std.specs.List.{range_with_len, enumerate_from}
use Rattle.hk_base.specs.declared.plain.Print.{Print}
use Rattle.hk_spec_sound.specs.Windows.{windows}
use Rattle.hk_spec_streams.specs.Station.{DATA, GAP}
use Rattle.hk_spec_streams.specs.Commands.{ADD_WORDS, WITHDRAW, PUBLISH}
use Rattle.hk_spec_streams.specs.Records.{STATION, OPERATOR}

-- the state after x; it is the value that is drawn
abbrev pub next_draw : ℕ → ℕ
next_draw x = (1103515245 * x + 12345) % 2 ^ 31

-- the high parts of the first n draws from a state on
unfoldable pub high_parts : ℕ → ℕ → List ℕ
high_parts x zero = []
high_parts x (suc n) = next_draw x / 2 ^ 15 ∷ high_parts (next_draw x) n

-- two high parts are a word
abbrev pub drawn_words : List ℕ → List ℕ
drawn_words highs = map (λ pair. slice_index pair 0 * 65536 + slice_index pair 1) (windows 2 2 highs)

-- Song i has 1000 + 100 * i words, drawn after those of the songs before it.
abbrev pub song_length : ℕ → ℕ
song_length i = 1000 + 100 * i

abbrev pub words_before : ℕ → ℕ
words_before i = sum_by song_length (range_with_len 0 i)

abbrev pub drawn_song : List ℕ → ℕ → List ℕ
drawn_song highs i = take (song_length i) (drop (words_before i) (drawn_words highs))

abbrev pub operator_record : List ℕ → List ℕ
operator_record bytes = OPERATOR ∷ to_be_bytes w16 (length bytes) ++ bytes

abbrev pub station_record : ℕ → List ℕ → List ℕ
station_record station bytes = STATION ∷ station ∷ to_be_bytes w16 (length bytes) ++ bytes

abbrev pub command_bytes : ℕ → List ℕ → List ℕ
command_bytes kind payload = kind ∷ to_be_bytes w32 (length payload) ++ payload

abbrev pub add_bytes : List ℕ → ℕ → List ℕ
add_bytes highs i = command_bytes ADD_WORDS.number (to_be_bytes w32 (100 + i) ++ flat_map (to_be_bytes w32) (drawn_song highs i))

abbrev pub withdraw_bytes : ℕ → List ℕ
withdraw_bytes i = command_bytes WITHDRAW.number (to_be_bytes w32 (100 + i))

-- round by round: songs 0 to 3, songs 4 to 7, song 3 goes, song 3 comes again; a publish after each
abbrev pub round_commands : List ℕ → List (List (List ℕ))
round_commands highs =
    map (add_bytes highs) (range_with_len 0 4) ∷ map (add_bytes highs) (range_with_len 4 4) ∷ (withdraw_bytes 3 ∷ []) ∷ (add_bytes highs 3 ∷ []) ∷ []

-- A print of a song's word with b of a draw: with flips its bit b is flipped, and the mask has so many bits from b on, round the word.
abbrev pub played : ℕ → ℕ → ℕ → Print
played zero word b = record { word = word; mask = 0 }
played (suc flips) word b = record { word = bit_xor word (2 ^ b); mask = sum (map (λ i. 2 ^ ((b + i) % 32)) (range_with_len 0 (suc flips))) }

abbrev pub print_bytes : Print → List ℕ
print_bytes print = to_be_bytes w32 print.word ++ to_be_bytes w32 print.mask

-- 600 prints of song (s + r) mod 8 from place 40 * r, with the draws of round r and station s of n
unfoldable pub played_bytes : ℕ → List ℕ → ℕ → ℕ → ℕ → List ℕ
played_bytes flips highs n r s =
    let song = drawn_song highs ((s + r) % 8) in
    let draws = drop (2 * words_before 8 + (r * n + s) * 600) highs in
    flat_map (λ i. print_bytes (played flips (slice_index song (40 * r + i)) (slice_index draws i % 32))) (range_with_len 0 600)

-- what a station sends: the hello of prints, then round by round a packet of data and a gap
abbrev pub hello_bytes : List ℕ
hello_bytes = codes "HKS1" ++ 0 ∷ 1 ∷ []

abbrev pub data_bytes : ℕ → List ℕ → ℕ → ℕ → ℕ → List ℕ
data_bytes flips highs n r s = DATA ∷ to_be_bytes w16 4800 ++ played_bytes flips highs n r s

abbrev pub gap_bytes : List ℕ
gap_bytes = GAP ∷ 0 ∷ 0 ∷ []

-- each round's commands, each station's prints, and a gap for each station
abbrev pub round_records : ℕ → List ℕ → ℕ → ℕ × List (List ℕ) → List ℕ
round_records flips highs n round =
    flat_map operator_record (round.1 ++ command_bytes PUBLISH.number [] ∷ [])
    ++ flat_map (λ s. station_record s (data_bytes flips highs n round.0 s)) (range_with_len 0 n)
    ++ flat_map (λ s. station_record s gap_bytes) (range_with_len 0 n)

-- the input for a seed, so many stations and flips
unfoldable pub make_input : ℕ → ℕ → ℕ → List ℕ
make_input seed n flips =
    let highs = high_parts seed (2 * words_before 8 + 4 * n * 600) in
    operator_record (codes "HKO1")
    ++ flat_map (λ s. station_record s hello_bytes) (range_with_len 0 n)
    ++ flat_map (round_records flips highs n) (enumerate_from 0 (round_commands highs))
