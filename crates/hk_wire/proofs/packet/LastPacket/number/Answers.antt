use Rattle.std.proofs.Common.{◌≡◌, ℕ, ◌∙◌, ◌+◌, ◌-◌, ap, sym, refl, arith, take, drop, List, [], ◌∷◌, suc}
use Rattle.std.proofs.lemmas.List.{drop-take}
use Rattle.std.specs.Int.{w32, from_be_bytes}
use Rattle.hk_wire.proofs.packet.LastPacket.number.Goals as goal

first_four : (n : ℕ) (bytes : List ℕ) → from_be_bytes w32 (take (suc (suc (suc (suc n)))) bytes) ≡ from_be_bytes w32 bytes
first_four n [] = refl
first_four n (a ∷ []) = refl
first_four n (a ∷ b ∷ []) = refl
first_four n (a ∷ b ∷ c ∷ []) = refl
first_four n (a ∷ b ∷ c ∷ d ∷ bytes) = refl

pub returns : goal.returns
returns c bytes is =
    let p : ℕ = c.args.place in
    let room : 12 ≡ c.args.place + suc (suc (suc (suc (8 - c.args.place)))) = omega arith in
    c.number.ensures ∙ ap (λ first. from_be_bytes w32 (drop p first)) is.first
    ∙ ap (λ n. from_be_bytes w32 (drop p (take n bytes))) room
    ∙ ap (from_be_bytes w32) (drop-take p (suc (suc (suc (suc (8 - p))))) bytes)
    ∙ first_four (8 - p) (drop p bytes) ∙ sym (first_four 0 (drop p bytes))
