use Rattle.std.proofs.Common.{◌≡◌, ◌∷◌, map, take, string_bytes, codes}
use Rattle.hk_setup.proofs.reading.behind_name.Given as goal

-- the name and the words so far
abbrev pub invariant-loop-word : goal.invariant-loop-word
invariant-loop-word l = map (λ text. text.now) l.texts.items ≡ codes "hkmon" ∷ map string_bytes (take l.word-index l.words)
