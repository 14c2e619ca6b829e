-- A whole command, by its kind.
use Rattle.std.proofs.Common.{◌≡◌, ℕ, List, [], ◌∷◌, length, refl, sym, ◌∙◌, ap, subst, append-nil, Option, Some, None, option_map, inl}
use Rattle.hk_base.specs.declared.plain.Form.{Form}
use Rattle.hk_base.specs.declared.plain.What.{What}
use Rattle.hk_base.specs.declared.plain.What.TheVariants.{Refused}
use Rattle.hk_base.specs.declared.plain.What.TheVariants as whats
use Rattle.hk_base.specs.declared.plain.Reason.TheVariants.{NoSongOpen}
use Rattle.hk_base.specs.declared.plain.Reason.TheVariants as reasons
use Rattle.hk_spec_streams.specs.Pieces.{first_that_holds}
use Rattle.hk_spec_streams.specs.Operator.{Command, AddWords, OpenSong, Audio, Close, Withdraw}
use Rattle.hk_spec_streams.specs.Commands as kinds
use Rattle.hk_spec_streams.specs.Commands.{row_of}
use Rattle.hk_spec_matching.specs.Catalogue as edits
use Rattle.hk_spec_runs.specs.OperatorState.{OperatorState, UnfinishedSong, present, refusals, with_edit, added_song, words_heard, IsReply, answer, after}
use Rattle.hk_spec_settings.specs.Refusals.{add_refusals}
use Rattle.hk_spec_settings.specs.Settings.{Rules}
use Rattle.hk_block.specs.Looker.{ShelfView}
use Rattle.hk_operator.specs.WordBuffer.{Buffered, KeepsWords}
use Rattle.hk_operator.specs.Draft.{Drafts, DraftsAs}
use Rattle.hk_operator.specs.declared.draft.Draft.{Draft}
use Rattle.hk_operator.specs.Sound.{IsFixed, IsAllowedForm, IsRecording, Hears, sound_of}
use Rattle.hk_operator.specs.OnShelf.{IsOnShelf, IsDecided}
use Rattle.hk_operator.specs.Obeying.{IsAtCommand, IsAnswered}
use Rattle.hk_operator.specs.declared.done.Done.{Done}
use Rattle.hk_operator.specs.declared.done.Done.TheVariants.{Reply, Publish as Published}
use Rattle.hk_operator.specs.declared.operator.Operator.{Operator}
use Rattle.hk_operator.specs.declared.recorder.Recorder.{Recorder}
use Rattle.hk_operator.proofs.Deciding.{decided_as, add_replied, withdraw_replied, close_replied, close_none}

-- what staging a song of these kept words decides
abbrev pub Adds : ShelfView → ℕ → Buffered → ShelfView → What → Type 0
Adds view id kept view' what = (rules : Rules) (state : OperatorState) (all : List ℕ) → IsFixed rules → IsOnShelf rules view state → KeepsWords kept all → kept.room ≡ rules.limits.positions
    → IsDecided (first_that_holds (add_refusals rules (present rules state) id (length all))) what (IsOnShelf rules view' state)
    (IsOnShelf rules view' (with_edit rules state (edits.Add id (added_song rules all))))

abbrev pub Withdraws : ShelfView → ℕ → ShelfView → What → Type 0
Withdraws view id view' what = (rules : Rules) (state : OperatorState) → IsFixed rules → IsOnShelf rules view state
    → IsDecided (first_that_holds (refusals rules state (Withdraw id))) what (IsOnShelf rules view' state) (IsOnShelf rules view' (with_edit rules state (edits.Withdraw id)))

-- the song isn't asked for by a shelf
song_gone : (rules : Rules) (view : ShelfView) (state : OperatorState) → IsOnShelf rules view state → IsOnShelf rules view (record state { song = None })
song_gone rules view state at = record { present = at.present; staged = at.staged; base = at.base; limits = at.limits }

-- an open or sound leaves what is published and staged, whatever is replied
open_at : (rules : Rules) (view : ShelfView) (state : OperatorState) (id : ℕ) (form : Form) (what : What) → IsOnShelf rules view state → IsOnShelf rules view (after rules state (OpenSong id form) what)
unfolding after
open_at rules view state id form whats.Done at = record { present = at.present; staged = at.staged; base = at.base; limits = at.limits }
open_at rules view state id form (whats.Published v) at = at
open_at rules view state id form (Refused reason) at = at

audio_at : (rules : Rules) (view : ShelfView) (state : OperatorState) (bytes : List ℕ) (what : What) → IsOnShelf rules view state → IsOnShelf rules view (after rules state (Audio bytes) what)
unfolding after
audio_at rules view state bytes whats.Done at = record { present = at.present; staged = at.staged; base = at.base; limits = at.limits }
audio_at rules view state bytes (whats.Published v) at = at
audio_at rules view state bytes (Refused reasons.NoMemory) at = song_gone rules view state at
audio_at rules view state bytes (Refused reasons.Duplicate) at = at
audio_at rules view state bytes (Refused reasons.Short) at = at
audio_at rules view state bytes (Refused reasons.Unknown) at = at
audio_at rules view state bytes (Refused reasons.SongsFull) at = at
audio_at rules view state bytes (Refused reasons.PositionsFull) at = at
audio_at rules view state bytes (Refused reasons.VersionsFull) at = at
audio_at rules view state bytes (Refused reasons.SongOpen) at = at
audio_at rules view state bytes (Refused reasons.NoSongOpen) at = at

module _ (rules : Rules) (op : Operator) (view : ShelfView) (state : OperatorState) where
  -- the state that is left, with another operator of the same rooms
  pub left_with : (sound : List ℕ) → IsAtCommand rules op view state sound → (op' : Operator) (view' : ShelfView) (now : OperatorState) (heard : List ℕ) → op'.draft.words.room ≡ op.draft.words.room
      → op'.recorder.words.room ≡ op.recorder.words.room → IsRecording rules op'.recorder now.song heard → IsOnShelf rules view' now → IsAtCommand rules op' view' now heard
  left_with sound h op' view' now heard room song_room recording at = record {
    fixed = h.fixed;
    recording = recording;
    shelf = at;
    room = room ∙ h.room;
    song_room = song_room ∙ h.song_room;
  }

  -- the open song is closed
  module _ (h : IsAtCommand rules op view state []) (op' : Operator) (view' : ShelfView) (gone : op'.recorder.song ≡ None) (room : op'.draft.words.room ≡ op.draft.words.room)
      (song_room : op'.recorder.words.room ≡ op.recorder.words.room) where
    closed_with : (now : OperatorState) → now.song ≡ None → IsOnShelf rules view' now → IsAtCommand rules op' view' now []
    closed_with now none at = left_with [] h op' view' now [] room song_room (subst (λ o. IsRecording rules op'.recorder o []) (sym none) gone) at

    close_by : (o : Option UnfinishedSong) → state.song ≡ o → (id : ℕ) (what : What) → op.recorder.song ≡ Some id → IsRecording rules op.recorder o [] → Adds view id op.recorder.words view' what
        → IsReply rules state Close what × IsAtCommand rules op' view' (after rules state Close what) []
    close_by None same id what is recording adds = absurd (let no_song : None ≡ Some id = sym recording ∙ is in cc)
    close_by (Some song) same id what is recording adds =
        let heard : Hears rules op.recorder song song.audio = subst (Hears rules op.recorder song) (append-nil song.audio) recording in
        let same_id : id ≡ song.id = id_in id song.id (sym is ∙ heard.id) in
        close_replied rules state (λ now. IsAtCommand rules op' view' now []) song what same
        (decided_as _ _ what
        (IsOnShelf rules view' state) (IsOnShelf rules view' (with_edit rules state (edits.Add song.id (added_song rules (words_heard rules song)))))
        (IsAtCommand rules op' view' (record state { song = None }) [])
        (IsAtCommand rules op' view' (record (with_edit rules state (edits.Add song.id (added_song rules (words_heard rules song)))) { song = None }) [])
        refl
        (λ at. closed_with (record state { song = None }) refl (song_gone rules view' state at))
        (λ none at. closed_with (record (with_edit rules state (edits.Add song.id (added_song rules (words_heard rules song)))) { song = None }) refl
        (song_gone rules view' (with_edit rules state (edits.Add song.id (added_song rules (words_heard rules song)))) at))
        (subst (λ i. IsDecided (first_that_holds (add_refusals rules (present rules state) i (length (words_heard rules song)))) what (IsOnShelf rules view' state)
        (IsOnShelf rules view' (with_edit rules state (edits.Add i (added_song rules (words_heard rules song)))))) same_id
        (adds rules state (words_heard rules song) h.fixed h.shelf heard.words h.song_room)))
      where
        id_in : (i j : ℕ) → Some i ≡ Some j → i ≡ j
        id_in i j is = cc

    pub song_closed : (id : ℕ) (what : What) → op.recorder.song ≡ Some id → Adds view id op.recorder.words view' what
        → IsReply rules state Close what × IsAtCommand rules op' view' (after rules state Close what) []
    song_closed id what is adds = close_by state.song refl id what is h.recording adds

    free_by : (o : Option UnfinishedSong) → IsRecording rules op.recorder o [] → op.recorder.song ≡ None → o ≡ None
    free_by None recording is = refl
    free_by (Some song) recording is = absurd (let no_song : None ≡ Some song.id = sym is ∙ recording.id in cc)

    pub none_closed : view' ≡ view → op.recorder.song ≡ None → IsReply rules state Close (Refused NoSongOpen) × IsAtCommand rules op' view' (after rules state Close (Refused NoSongOpen)) []
    none_closed same is = close_none rules state (λ now. IsAtCommand rules op' view' now []) (free_by state.song h.recording is)
        (closed_with (record state { song = None }) refl (song_gone rules view' state (subst (λ (v : ShelfView). IsOnShelf rules v state) (sym same) h.shelf)))

  -- each kind's command
  module _ (number : ℕ) (op' : Operator) (view' : ShelfView) (room : op'.draft.words.room ≡ op.draft.words.room) where
    abbrev Leaves : OperatorState → Type 0
    Leaves now = IsAtCommand rules op' view' now []

    abbrev Answers : Command → What → Type 0
    Answers command what = IsAnswered rules state number (command ∷ []) (Reply (record { number = number; what = what })) Leaves

    -- what a reply leaves, with the same recorder
    leaves : IsAtCommand rules op view state [] → op'.recorder ≡ op.recorder → (now : OperatorState) → now.song ≡ state.song → IsOnShelf rules view' now → IsAtCommand rules op' view' now []
    leaves h same now song at =
        left_with [] h op' view' now [] room (ap (λ (r : Recorder). r.words.room) same)
        (subst (λ (r : Recorder). IsRecording rules r now.song []) (sym same) (subst (λ o. IsRecording rules op.recorder o []) (sym song) h.recording)) at

    -- a command that the draft is, by other words
    as_drafted : (command drafted : Command) (what : What) → command ≡ drafted → IsAtCommand rules op view state (sound_of command)
        → (IsAtCommand rules op view state (sound_of drafted) → Answers drafted what) → Answers command what
    as_drafted command drafted what is h completes =
        subst (λ c. Answers c what) (sym is) (completes (subst (λ c. IsAtCommand rules op view state (sound_of c)) is h))

    pub add_completes : (what : What) → op'.recorder ≡ op.recorder → Adds view op.draft.id op.draft.words view' what
        → (command : Command) → IsAtCommand rules op view state (sound_of command) → DraftsAs kinds.AddWords op.draft command → Answers command what
    add_completes what same adds command h drafts =
        let words : List ℕ = drafts.0 in
        as_drafted command (AddWords op.draft.id words) what drafts.1 h (λ h.
        let both = add_replied rules state Leaves op.draft.id words what
        (decided_as _ _ what (IsOnShelf rules view' state) (IsOnShelf rules view' (with_edit rules state (edits.Add op.draft.id (added_song rules words))))
        (IsAtCommand rules op' view' state []) (IsAtCommand rules op' view' (with_edit rules state (edits.Add op.draft.id (added_song rules words))) []) refl
        (leaves h same state refl) (λ none at. leaves h same (with_edit rules state (edits.Add op.draft.id (added_song rules words))) refl at)
        (adds rules state words h.fixed h.shelf drafts.2 h.room)) in
        (refl, refl, refl, both.0, both.1))

    pub withdraw_completes : (what : What) → op'.recorder ≡ op.recorder → Withdraws view op.draft.id view' what
        → (command : Command) → IsAtCommand rules op view state (sound_of command) → DraftsAs kinds.Withdraw op.draft command → Answers command what
    withdraw_completes what same goes command h drafts = as_drafted command (Withdraw op.draft.id) what drafts h (λ h.
        let both = withdraw_replied rules state Leaves op.draft.id what
        (decided_as _ _ what (IsOnShelf rules view' state) (IsOnShelf rules view' (with_edit rules state (edits.Withdraw op.draft.id)))
        (IsAtCommand rules op' view' state []) (IsAtCommand rules op' view' (with_edit rules state (edits.Withdraw op.draft.id)) []) refl
        (leaves h same state refl) (λ none at. leaves h same (with_edit rules state (edits.Withdraw op.draft.id)) refl at)
        (goes rules state h.fixed h.shelf)) in
        (refl, refl, refl, both.0, both.1))

    pub close_completes : (what : What) → (IsAtCommand rules op view state [] → IsReply rules state Close what × Leaves (after rules state Close what))
        → (command : Command) → IsAtCommand rules op view state (sound_of command) → DraftsAs kinds.Close op.draft command → Answers command what
    close_completes what closes command h drafts = as_drafted command Close what drafts h (λ h. let both = closes h in (refl, refl, refl, both.0, both.1))

    pub open_completes : (what : What) → view' ≡ view → op'.recorder.words.room ≡ op.recorder.words.room
        → (IsRecording rules op.recorder state.song [] → what ≡ answer rules state (OpenSong op.draft.id op.draft.form))
        → (IsFixed rules → IsAllowedForm op.draft.form → IsRecording rules op.recorder state.song []
        → IsRecording rules op'.recorder (after rules state (OpenSong op.draft.id op.draft.form) what).song [])
        → (command : Command) → IsAtCommand rules op view state (sound_of command) → DraftsAs kinds.OpenSong op.draft command → Answers command what
    open_completes what same song_room answers opens command h drafts = as_drafted command (OpenSong op.draft.id op.draft.form) what drafts.0 h (λ h.
        let at : IsOnShelf rules view' (after rules state (OpenSong op.draft.id op.draft.form) what) =
        subst (λ (v : ShelfView). IsOnShelf rules v (after rules state (OpenSong op.draft.id op.draft.form) what)) (sym same) (open_at rules view state op.draft.id op.draft.form what h.shelf) in
        let left = left_with [] h op' view' (after rules state (OpenSong op.draft.id op.draft.form) what) [] room song_room (opens h.fixed drafts.1 h.recording) at in
        (refl, refl, refl, inl (answers h.recording), left))

    pub audio_completes : (what : What) → view' ≡ view → op'.recorder ≡ op.recorder
        → ((sound : List ℕ) → IsRecording rules op.recorder state.song sound → what ≡ answer rules state (Audio sound))
        → ((sound : List ℕ) → IsRecording rules op.recorder state.song sound → IsRecording rules op.recorder (after rules state (Audio sound) what).song [])
        → (command : Command) → IsAtCommand rules op view state (sound_of command) → DraftsAs kinds.Audio op.draft command → Answers command what
    audio_completes what same same_recorder answers joins command h drafts =
        let bytes : List ℕ = drafts.0 in
        as_drafted command (Audio bytes) what drafts.1 h (λ h.
        let at : IsOnShelf rules view' (after rules state (Audio bytes) what) =
        subst (λ (v : ShelfView). IsOnShelf rules v (after rules state (Audio bytes) what)) (sym same) (audio_at rules view state bytes what h.shelf) in (
          refl,
          refl,
          refl,
          inl (answers bytes h.recording),
          left_with bytes h op' view' (after rules state (Audio bytes) what) [] room (ap (λ (r : Recorder). r.words.room) same_recorder)
              (subst (λ (r : Recorder). IsRecording rules r (after rules state (Audio bytes) what).song []) (sym same_recorder) (joins bytes h.recording)) at,
        ))

    pub publish_completes : view' ≡ view → op'.recorder ≡ op.recorder
        → (command : Command) → IsAtCommand rules op view state (sound_of command) → DraftsAs kinds.Publish op.draft command → IsAnswered rules state number (command ∷ []) (Published number) Leaves
    publish_completes same same_recorder command h is =
        let quiet = subst (λ c. IsAtCommand rules op view state (sound_of c)) is h in
        subst (λ c. IsAnswered rules state number (c ∷ []) (Published number) Leaves) (sym is)
        (refl, refl, refl, leaves quiet same_recorder state refl (subst (λ (v : ShelfView). IsOnShelf rules v state) (sym same) quiet.shelf))

-- the draft is that of a command of the kind whose number it has
pub as_kind : (d : Draft) (kind : kinds.Kind) (command : Command) → Some kind ≡ option_map (λ (row : kinds.Row). row.kind) (row_of d.kind) → Drafts d command → DraftsAs kind d command
as_kind d kind command numbered drafts =
    let same : Some drafts.row.kind ≡ Some kind = sym (numbered ∙ ap (option_map (λ (row : kinds.Row). row.kind)) drafts.is) in
    subst (λ k. DraftsAs k d command) (one drafts.row.kind kind same) drafts.as_kind
  where
    one : (a b : kinds.Kind) → Some a ≡ Some b → a ≡ b
    one a b is = cc

-- a whole command has a kind
pub has_kind : (d : Draft) (command : Command) → None ≡ option_map (λ (row : kinds.Row). row.kind) (row_of d.kind) → Drafts d command → ⊥
has_kind d command none drafts = some drafts.row.kind (none ∙ ap (option_map (λ (row : kinds.Row). row.kind)) drafts.is)
  where
    some : (k : kinds.Kind) → None ≡ Some k → ⊥
    some k is = cc

-- a reply that was given
pub answered_with : (rules : Rules) (state : OperatorState) (command : Command) (n m : ℕ) (what : What) (done : Done) (Leaves : OperatorState → Type 0) → done ≡ Reply (record { number = n; what = what }) → n ≡ m
    → IsAnswered rules state n (command ∷ []) (Reply (record { number = n; what = what })) Leaves → IsAnswered rules state m (command ∷ []) done Leaves
answered_with rules state command n m what done Leaves is same answered =
    subst (λ d. IsAnswered rules state m (command ∷ []) d Leaves) (sym is)
    (subst (λ k. IsAnswered rules state k (command ∷ []) (Reply (record { number = n; what = what })) Leaves) same answered)
