-- The open song as its sound comes.
use Rattle.std.proofs.Common.{◌≡◌, ℕ, ◌≤◌, inl, inr, List, [], ◌∷◌, ◌++◌, map, refl, sym, ◌∙◌, ap, subst, arith, append-nil, true, false, Option, Some, None}
use Rattle.std.specs.Prelude.{◌==◌, ◌||◌, is_some, option_to_list}
use Rattle.std.proofs.lemmas.List.{append_assoc, map-append}
use Rattle.std.proofs.lemmas.Bool.{or_cases, eqb-true, both_ways}
use Rattle.hk_base.specs.declared.plain.Print.{Print}
use Rattle.hk_base.specs.declared.plain.Form.{Form}
use Rattle.hk_base.specs.declared.plain.Reason.TheVariants.{SongOpen, NoSongOpen}
use Rattle.hk_base.specs.declared.plain.What.TheVariants.{Done, Refused}
use Rattle.hk_spec_sound.specs.Windows.{adjacent}
use Rattle.hk_spec_sound.specs.Samples.{samples_of, decimated}
use Rattle.hk_spec_sound.specs.Prints.{Analysis, full_analysis, print_of, word_of, differences, frame_energies, prints_of_samples, prints_of_sound}
use Rattle.hk_spec_streams.specs.Pieces.{is_one_of}
use Rattle.hk_spec_streams.specs.Operator.{OpenSong, Audio}
use Rattle.hk_spec_runs.specs.OperatorState.{OperatorState, UnfinishedSong, answer, after, words_heard, with_audio}
use Rattle.hk_spec_settings.specs.Settings.{Rules}
use Rattle.hk_front.specs.Hearing.{Hearing, HasAnalysed, KeepsRules, channels_of, factor_of, prints_in}
use Rattle.hk_spec_sound.proofs.Silence.{samples_of-nil, decimated-nil, frame_energies-nil}
use Rattle.hk_operator.specs.WordBuffer.{Buffered, KeepsWords, with_word, cleared}
use Rattle.hk_operator.specs.Sound.{IsFixed, IsAllowedForm, IsRecording, Hears}
use Rattle.hk_operator.specs.declared.recorder.Recorder.{Recorder}
use Rattle.hk_operator.proofs.Drafting.{keeps_nothing, keeps_more}

-- the words of prints are the same, however many bits are weak
same_words : (k j : ℕ) (es : List (List ℕ × List ℕ)) → map (λ (p : Print). p.word) (map (λ e. print_of k (differences e.0 e.1)) es) ≡ map (λ (p : Print). p.word) (map (λ e. print_of j (differences e.0 e.1)) es)
same_words k j [] = refl
same_words k j (e ∷ es) = ap (λ ws. word_of (differences e.0 e.1) ∷ ws) (same_words k j es)

words_any : (a : Analysis) (k j channels factor : ℕ) (bytes : List ℕ)
    → map (λ (p : Print). p.word) (prints_of_sound a k channels factor bytes) ≡ map (λ (p : Print). p.word) (prints_of_sound a j channels factor bytes)
unfolding prints_of_sound prints_of_samples
words_any a k j channels factor bytes = same_words k j (adjacent (frame_energies a (decimated factor (samples_of channels bytes))))

-- the words of a song's sound are those of the front's prints
pub recorded_is : (rules : Rules) (front : Hearing) (id : ℕ) (form : Form) (heard : List ℕ) → IsFixed rules → channels_of front ≡ form.channels → factor_of front ≡ form.factor
    → words_heard rules (record { id = id; form = form; audio = heard }) ≡ map (λ (p : Print). p.word) (prints_in front heard)
recorded_is rules front id form heard fixed channels factor =
    ap (λ a. map (λ (p : Print). p.word) (prints_of_sound a rules.setting.flips form.channels form.factor heard)) fixed.analysis
    ∙ words_any full_analysis rules.setting.flips front.flips form.channels form.factor heard
    ∙ ap (λ c. map (λ (p : Print). p.word) (prints_of_sound full_analysis front.flips c form.factor heard)) (sym channels)
    ∙ ap (λ f. map (λ (p : Print). p.word) (prints_of_sound full_analysis front.flips (channels_of front) f heard)) (sym factor)

no_prints : (front : Hearing) → 1 ≤ channels_of front → 1 ≤ factor_of front → prints_in front [] ≡ []
unfolding prints_of_sound prints_of_samples
no_prints front channels factor =
    ap (λ samples. prints_of_samples full_analysis front.flips (decimated (factor_of front) samples)) (samples_of-nil (channels_of front) channels)
    ∙ ap (prints_of_samples full_analysis front.flips) (decimated-nil (factor_of front) factor)
    ∙ ap (λ es. map (λ e. print_of front.flips (differences e.0 e.1)) (adjacent es)) (frame_energies-nil full_analysis)

-- the kept words with a print's
abbrev pub kept_after : Buffered → Option Print → Buffered
kept_after kept None = kept
kept_after kept (Some print) = with_word kept print.word

keeps_print : (kept : Buffered) (all : List ℕ) (print : Option Print) → KeepsWords kept all
    → KeepsWords (kept_after kept print) (all ++ map (λ (p : Print). p.word) (option_to_list print))
keeps_print kept all None is = subst (KeepsWords kept) (sym (append-nil all)) is
keeps_print kept all (Some print) is = keeps_more kept all print.word is

-- a byte more
pub hears_more : (rules : Rules) (r : Recorder) (song : Option UnfinishedSong) (sound : List ℕ) (b : ℕ) (front : Hearing) (print : Option Print) → IsFixed rules
    → (r.song ≡ None → ⊥) → KeepsRules r.front front → ((bytes : List ℕ) → HasAnalysed r.front bytes → HasAnalysed front (bytes ++ b ∷ []))
    → ((bytes : List ℕ) → HasAnalysed r.front bytes → prints_in r.front (bytes ++ b ∷ []) ≡ prints_in r.front bytes ++ option_to_list print)
    → IsRecording rules r song sound
    → IsRecording rules (record r { front = front; words = kept_after r.words print }) song (sound ++ b ∷ [])
hears_more rules r None sound b front print fixed opened keeps taken prints is = absurd (opened is)
hears_more rules r (Some song) sound b front print fixed opened keeps taken prints is =
    let heard : List ℕ = song.audio ++ sound in
    let longer : List ℕ = heard ++ b ∷ [] in
    let kept : KeepsWords r.words (words_heard rules (record song { audio = heard })) = is.words in
    let grown : words_heard rules (record song { audio = longer }) ≡ words_heard rules (record song { audio = heard }) ++ map (λ (p : Print). p.word) (option_to_list print) =
    recorded_is rules r.front song.id song.form longer fixed is.channels is.factor
    ∙ ap (map (λ (p : Print). p.word)) (prints heard is.taken)
    ∙ map-append (λ (p : Print). p.word) (prints_in r.front heard) (option_to_list print)
    ∙ ap (λ ws. ws ++ map (λ (p : Print). p.word) (option_to_list print)) (sym (recorded_is rules r.front song.id song.form heard fixed is.channels is.factor)) in
    let now : Recorder = record r { front = front; words = kept_after r.words print } in
    subst (Hears rules now song) (append_assoc song.audio sound (b ∷ [])) (record {
      id = is.id;
      channels = keeps.1.0 ∙ is.channels;
      factor = keeps.1.1 ∙ is.factor;
      taken = taken heard is.taken;
      words = subst (KeepsWords (kept_after r.words print)) (sym grown) (keeps_print r.words (words_heard rules (record song { audio = heard })) print kept);
    })

-- nothing is heard
pub hears_nothing : (rules : Rules) (r : Recorder) (song : Option UnfinishedSong) (sound : List ℕ) → IsRecording rules r song sound → IsRecording rules r song (sound ++ [])
hears_nothing rules r song sound is = subst (IsRecording rules r song) (sym (append-nil sound)) is

-- a song is open with the recorder exactly where one is open on the state
pub open_alike : (rules : Rules) (r : Recorder) (song : Option UnfinishedSong) (sound : List ℕ) → IsRecording rules r song sound → is_some r.song ≡ is_some song
open_alike rules r None sound is = ap is_some is
open_alike rules r (Some song) sound is = ap is_some is.id

module _ (rules : Rules) (r : Recorder) (state : OperatorState) where
  by_open : (song : Option UnfinishedSong) (id : ℕ) (form : Form) → is_some song ≡ true → answer rules (record state { song = song }) (OpenSong id form) ≡ Refused SongOpen
  unfolding answer
  by_open (Some s) id form is = refl
  by_open None id form is = absurd (both_ways false refl is)

  by_free : (song : Option UnfinishedSong) (id : ℕ) (form : Form) → is_some song ≡ false → answer rules (record state { song = song }) (OpenSong id form) ≡ Done
  unfolding answer
  by_free None id form is = refl
  by_free (Some s) id form is = absurd (both_ways true is refl)

  audio_open : (song : Option UnfinishedSong) (sound : List ℕ) → is_some song ≡ true → answer rules (record state { song = song }) (Audio sound) ≡ Done
  unfolding answer
  audio_open (Some s) sound is = refl
  audio_open None sound is = absurd (both_ways false refl is)

  audio_free : (song : Option UnfinishedSong) (sound : List ℕ) → is_some song ≡ false → answer rules (record state { song = song }) (Audio sound) ≡ Refused NoSongOpen
  unfolding answer
  audio_free None sound is = refl
  audio_free (Some s) sound is = absurd (both_ways true is refl)

  pub open_refused : (id : ℕ) (form : Form) (sound : List ℕ) → IsRecording rules r state.song sound → is_some r.song ≡ true → Refused SongOpen ≡ answer rules state (OpenSong id form)
  open_refused id form sound is opened = sym (by_open state.song id form (sym (open_alike rules r state.song sound is) ∙ opened))

  pub open_done : (id : ℕ) (form : Form) (sound : List ℕ) → IsRecording rules r state.song sound → is_some r.song ≡ false → Done ≡ answer rules state (OpenSong id form)
  open_done id form sound is opened = sym (by_free state.song id form (sym (open_alike rules r state.song sound is) ∙ opened))

  pub audio_done : (sound more : List ℕ) → IsRecording rules r state.song more → is_some r.song ≡ true → Done ≡ answer rules state (Audio sound)
  audio_done sound more is opened = sym (audio_open state.song sound (sym (open_alike rules r state.song more is) ∙ opened))

  pub audio_refused : (sound more : List ℕ) → IsRecording rules r state.song more → is_some r.song ≡ false → Refused NoSongOpen ≡ answer rules state (Audio sound)
  audio_refused sound more is opened = sym (audio_free state.song sound (sym (open_alike rules r state.song more is) ∙ opened))

  pub stays_open : (id : ℕ) (form : Form) → IsRecording rules r state.song [] → IsRecording rules r (after rules state (OpenSong id form) (Refused SongOpen)).song []
  unfolding after
  stays_open id form is = is

  with_sound : (song : UnfinishedSong) (sound heard : List ℕ) → Hears rules r song heard → Hears rules r (with_audio sound song) heard
  with_sound song sound heard is = record { id = is.id; channels = is.channels; factor = is.factor; taken = is.taken; words = is.words }

  joined : (song : Option UnfinishedSong) (sound : List ℕ) → IsRecording rules r song sound → IsRecording rules r (after rules (record state { song = song }) (Audio sound) Done).song []
  unfolding after
  joined None sound is = is
  joined (Some song) sound is = subst (Hears rules r (with_audio sound song)) (sym (append-nil (song.audio ++ sound))) (with_sound song sound (song.audio ++ sound) is)

  -- the sound of a whole command is the song's
  pub sound_joined : (sound : List ℕ) → IsRecording rules r state.song sound → IsRecording rules r (after rules state (Audio sound) Done).song []
  sound_joined sound is = joined state.song sound is

  dropped : (song : Option UnfinishedSong) (sound : List ℕ) → is_some song ≡ false → IsRecording rules r song sound → IsRecording rules r (after rules (record state { song = song }) (Audio sound) (Refused NoSongOpen)).song []
  unfolding after
  dropped None sound none is = is
  dropped (Some song) sound none is = absurd (both_ways true none refl)

  pub sound_dropped : (sound : List ℕ) → IsRecording rules r state.song sound → is_some r.song ≡ false → IsRecording rules r (after rules state (Audio sound) (Refused NoSongOpen)).song []
  sound_dropped sound is none = dropped state.song sound (sym (open_alike rules r state.song sound is) ∙ none) is

few_channels : (c : ℕ) → is_one_of (1 ∷ 2 ∷ []) c ≡ true → (1 ≤ c) × (c ≤ 2)
few_channels c is = elim (or_cases (1 == c) ((2 == c) || false) is) [
  | inl one ↦ let e : 1 ≡ c = eqb-true _ _ one in (omega (arith, e), omega (arith, e))
  | inr rest ↦ elim (or_cases (2 == c) false rest) [
    | inl two ↦ let e : 2 ≡ c = eqb-true _ _ two in (omega (arith, e), omega (arith, e))
    | inr none ↦ absurd (both_ways false refl none)
  ]
]

small_factor : (f : ℕ) → is_one_of (1 ∷ 2 ∷ 4 ∷ 8 ∷ []) f ≡ true → (1 ≤ f) × (f ≤ 8)
small_factor f is = elim (or_cases (1 == f) ((2 == f) || ((4 == f) || ((8 == f) || false))) is) [
  | inl one ↦ let e : 1 ≡ f = eqb-true _ _ one in (omega (arith, e), omega (arith, e))
  | inr rest ↦ elim (or_cases (2 == f) ((4 == f) || ((8 == f) || false)) rest) [
    | inl two ↦ let e : 2 ≡ f = eqb-true _ _ two in (omega (arith, e), omega (arith, e))
    | inr others ↦ elim (or_cases (4 == f) ((8 == f) || false) others) [
      | inl four ↦ let e : 4 ≡ f = eqb-true _ _ four in (omega (arith, e), omega (arith, e))
      | inr last ↦ elim (or_cases (8 == f) false last) [
        | inl eight ↦ let e : 8 ≡ f = eqb-true _ _ eight in (omega (arith, e), omega (arith, e))
        | inr none ↦ absurd (both_ways false refl none)
      ]
    ]
  ]
]

pub allowed_channels : (form : Form) → IsAllowedForm form → (1 ≤ form.channels) × (form.channels ≤ 2)
allowed_channels form is = few_channels form.channels is.0

pub allowed_factor : (form : Form) → IsAllowedForm form → (1 ≤ form.factor) × (form.factor ≤ 8)
allowed_factor form is = small_factor form.factor is.1

-- a song that begins
pub song_begun : (rules : Rules) (r : Recorder) (state : OperatorState) (id : ℕ) (form : Form) (kept : Buffered) → IsFixed rules → IsAllowedForm form
    → r.song ≡ Some id → channels_of r.front ≡ form.channels → factor_of r.front ≡ form.factor → HasAnalysed r.front [] → r.words ≡ cleared kept
    → IsRecording rules r (after rules state (OpenSong id form) Done).song []
unfolding after
song_begun rules r state id form kept fixed allowed song channels factor taken words =
    let c = allowed_channels form allowed in
    let f = allowed_factor form allowed in
    let some : 1 ≤ channels_of r.front = subst (λ n. 1 ≤ n) (sym channels) c.0 in
    let factors : 1 ≤ factor_of r.front = subst (λ n. 1 ≤ n) (sym factor) f.0 in
    let none : words_heard rules (record { id = id; form = form; audio = [] }) ≡ [] =
    recorded_is rules r.front id form [] fixed channels factor ∙ ap (map (λ (p : Print). p.word)) (no_prints r.front some factors) in
    record {
      id = song;
      channels = channels;
      factor = factor;
      taken = taken;
      words = subst (KeepsWords r.words) (sym none) (subst (λ (k : Buffered). KeepsWords k []) (sym words) (keeps_nothing kept.room));
    }

pub none_not_some : {A : Type 0} (o : Option A) → is_some o ≡ true → o ≡ None → ⊥
none_not_some o is none = both_ways (is_some o) (ap is_some none) is
