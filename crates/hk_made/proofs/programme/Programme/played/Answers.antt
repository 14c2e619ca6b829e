use Rattle.std.proofs.Common.{◌≡◌, List, ℕ, ◌+◌, ◌-◌, ◌*◌, ◌%◌, ◌∷◌, ◌++◌, length, take, drop, IfOk, ap, subst, ◌∙◌}
use Rattle.std.specs.Int.{w16, to_be_bytes}
use Rattle.std.proofs.lemmas.List.{take_rest}
use Rattle.hk_spec_streams.specs.Station.{DATA}
use Rattle.hk_spec_made.specs.Input.{drawn_song, words_before}
use Rattle.hk_made.specs.Packets.{prints_text}
use Rattle.hk_made.proofs.Played.{played_bytes-text}
use Rattle.hk_made.proofs.programme.Programme.played.Goals as goal

pub returns-clause-bytes : goal.returns-clause-bytes
returns-clause-bytes c =
    let self = c.args.self.now in
    let highs = self.highs.items in
    let r = c.args.round in
    let s = c.args.station in
    let Has : List ℕ → Type 0 = λ bytes. IfOk c.data_packet.result (λ packet. packet.items ≡ DATA ∷ to_be_bytes w16 4800 ++ bytes) in
    let start : ℕ → ℕ → ℕ = λ n s. 2 * words_before 8 + (r * n + s) * 600 in
    let first : ℕ = start c.from.result c.from-station.result in
    let rest : List ℕ = take (length c.deref.result.now - first) (drop first c.deref.result.now) in
    let song : c.song-song.result.now ≡ drawn_song highs ((s + r) % 8) = c.song-song.ensures.words ∙ ap (λ n. drawn_song highs ((n + r) % 8)) c.from-station.ensures in
    let draws = take_rest c.deref.result.now first ∙ ap (drop first) c.deref.ensures.value
    ∙ ap (λ n. drop (start n c.from-station.result) highs) c.from.ensures ∙ ap (λ n. drop (start self.stations n) highs) c.from-station.ensures in
    subst Has
    (ap (λ xs. prints_text self.flips xs (40 * r) rest) song ∙ ap (λ xs. prints_text self.flips (drawn_song highs ((s + r) % 8)) (40 * r) xs) draws
    ∙ played_bytes-text self.flips highs self.stations r s)
    c.data_packet.ensures.bytes
