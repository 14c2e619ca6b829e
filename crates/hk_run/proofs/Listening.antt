-- Bytes of a station's stream that complete nothing.
use Rattle.std.proofs.Common.{◌≡◌, ℕ, ◌<◌, List, [], ◌∷◌, ◌++◌, length, length-set, refl, sym, ◌∙◌, ap, subst, arith, append-nil, append_assoc, Some, None, fold}
use Rattle.std.specs.Prelude.{map, flat_map, slice_get, slice_set}
use Rattle.std.proofs.lemmas.List.{get_or-set_same, set-get_or, set-set}
use Rattle.std.proofs.lemmas.List.Sums.{fold-append}
use Rattle.std.proofs.lemmas.Option.{get_or_from_slice_get, slice_get-get_or, slice_get_within}
use Rattle.hk_spec_streams.specs.Records.{ForStation, arrivals, input_fault}
use Rattle.hk_spec_lines.specs.Lines.{printed_text}
use Rattle.hk_spec_settings.specs.Settings.{Rules}
use Rattle.hk_spec_runs.specs.Listening.{Instant, next}
use Rattle.hk_spec_runs.specs.Outcome.{task_of}
use Rattle.hk_spec_runs.specs.Replay.{Listener, Scene, opening, arrived, report, reports}
use Rattle.hk_spec_runs.specs.Words.{Replay}
use Rattle.hk_probe.specs.Single.{Single, shelf_of}
use Rattle.hk_operator.specs.Obeying.{IsObeying}
use Rattle.hk_records.specs.Reader.{HasRead, input_limit, stations_of}
use Rattle.hk_records.specs.declared.reader.RecordReader.{RecordReader}
use Rattle.hk_receiver.specs.Quiet.{IsQuiet, AreQuiet}
use Rattle.hk_station.specs.Hearing.{IsHearing, station_number}
use Rattle.hk_station.specs.declared.station.Station.{Station}
use Rattle.hk_station.proofs.Listening.{further, no_further, next_quiet, no_block_gained}
use Rattle.hk_run.specs.Course.{scene_after, heard_by}
use Rattle.hk_run.specs.Holding.{Holds, AreHearing}
use Rattle.hk_run.specs.Playing.{HasPlayed}
use Rattle.hk_run.specs.declared.run.Run.{Run}
use Rattle.hk_run.proofs.Hearing.{station_scene}
use Rattle.hk_run.proofs.Settling.{stretch_settled}
use Rattle.hk_run.proofs.Stations.{Found, exchanged}
use Rattle.hk_run.proofs.Tasks.{text_is}

module _ (rules : Rules) (refused : List ℕ) (k : ℕ) where
  -- a scene with another listener
  abbrev pub with_listener : Scene → Listener → Scene
  with_listener scene l = record scene { listeners = slice_set scene.listeners k l }

  -- one byte
  module _ (scene : Scene) (l : Listener) (byte : ℕ) (going : l.end ≡ None) (quiet : IsQuiet rules l.used byte) where
    abbrev version : ℕ
    version = length scene.state.journal

    abbrev heard_then : Instant
    heard_then = record { byte = byte; version = version; songs = [] }

    no_reports : reports rules k scene.state.journal l (next rules version l byte) ≡ []
    no_reports = ap (map (report rules k scene.state.journal version)) (no_block_gained rules l heard_then going quiet)

    pub one_quiet : slice_get scene.listeners k ≡ Some l → arrived rules refused scene (ForStation k byte) ≡ with_listener scene (further l (byte ∷ []))
    one_quiet there =
        station_scene rules refused scene k byte l there
        ∙ ap (λ ps. record scene { listeners = slice_set scene.listeners k (next rules version l byte); printed = scene.printed ++ ps }) no_reports
        ∙ ap (λ ps. record scene { listeners = slice_set scene.listeners k (next rules version l byte); printed = ps }) (append-nil scene.printed)
        ∙ ap (with_listener scene) (next_quiet rules l heard_then going quiet)

  -- nothing changes
  same_listener : (scene : Scene) (l : Listener) → slice_get scene.listeners k ≡ Some l → with_listener scene l ≡ scene
  same_listener scene l there =
      let own = get_or_from_slice_get scene.listeners k l l there in
      ap (λ listeners. record scene { listeners = listeners }) (ap (slice_set scene.listeners k) (sym own) ∙ set-get_or scene.listeners k l)

  there_now : (listeners : List Listener) (l m : Listener) → slice_get listeners k ≡ Some l → slice_get (slice_set listeners k m) k ≡ Some m
  there_now listeners l m there =
      let inside : k < length listeners = slice_get_within listeners k l there in
      let same : length (slice_set listeners k m) ≡ length listeners = length-set listeners k m in
      slice_get-get_or (slice_set listeners k m) k m (omega (arith, inside, same)) ∙ ap (λ x. Some x) (get_or-set_same listeners k m m inside)

  -- all of them
  pub all_quiet : (bytes : List ℕ) (scene : Scene) (l : Listener) → slice_get scene.listeners k ≡ Some l → l.end ≡ None → AreQuiet rules l.used bytes
      → heard_by rules refused scene k bytes ≡ with_listener scene (further l bytes)
  all_quiet [] scene l there going quiet = sym (ap (with_listener scene) (no_further l) ∙ same_listener scene l there)
  all_quiet (b ∷ bytes) scene l there going quiet =
      let m : Listener = further l (b ∷ []) in
      ap (λ (s : Scene). heard_by rules refused s k bytes) (one_quiet scene l b going quiet.0 there)
      ∙ all_quiet bytes (with_listener scene m) m (there_now scene.listeners l m there) going quiet.1
      ∙ ap (λ listeners. record scene { listeners = listeners }) (set-set scene.listeners k m (further m bytes))
      ∙ ap (λ used. with_listener scene (record l { used = used })) (append_assoc l.used (b ∷ []) bytes)

-- the run with a station that took bytes which complete nothing
module _ (rules : Rules) (scene : Scene) (run : Run) (k : ℕ) (station : Station) (h : Holds rules run scene) (at : Found rules 0 station scene.listeners k)
    (refused bytes : List ℕ) (unended : station.end ≡ None) (quiet : AreQuiet rules at.listener.used bytes) where
  scene_is : heard_by rules refused scene k bytes ≡ with_listener rules refused k scene (further at.listener bytes)
  scene_is = all_quiet rules refused k bytes scene at.listener at.there (sym at.hears.end_is ∙ unended) quiet

  pub prints_nothing : (heard_by rules refused scene k bytes).printed ≡ scene.printed
  prints_nothing = ap (λ (s : Scene). s.printed) scene_is

  pub holds_further : (station' : Station) (run' : Run) → IsHearing rules station' (further at.listener bytes) → station_number station' ≡ station_number station
      → run'.stations.items ≡ slice_set run.stations.items k station' → run'.operator ≡ run.operator → run'.catalogue ≡ run.catalogue
      → Holds rules run' (heard_by rules refused scene k bytes)
  holds_further station' run' hears number stations operators catalogues =
      subst (λ (s : Scene). Holds rules run' s) (sym scene_is) (record {
        hears = subst (λ ss. AreHearing rules 0 ss (slice_set scene.listeners k (further at.listener bytes))) (sym stations)
            (exchanged rules 0 run.stations.items scene.listeners k station' (further at.listener bytes) h.hears hears (number ∙ at.number));
        obeys = subst (λ o. IsObeying rules o (shelf_of run'.catalogue) scene.operator_stream scene.state) (sym operators)
            (subst (λ (s : Single). IsObeying rules run.operator (shelf_of s) scene.operator_stream scene.state) (sym catalogues) h.obeys);
      })

-- the scene of a text with bytes of a station's stream behind it
pub scene_further : (rules : Rules) (r text bytes : List ℕ) (k : ℕ) → arrivals (text ++ bytes) ≡ arrivals text ++ map (ForStation k) bytes
    → scene_after rules r (text ++ bytes) ≡ heard_by rules r (scene_after rules r text) k bytes
scene_further rules r text bytes k came =
    ap (fold (arrived rules r) (opening rules)) came ∙ fold-append (arrived rules r) (opening rules) (arrivals text) (map (ForStation k) bytes)

-- what was played, and bytes of a station's stream behind it that print nothing
module _ (rules : Rules) (run : Run) (refused text bytes : List ℕ) (k : ℕ) (h : HasPlayed rules run refused text) (came : arrivals (text ++ bytes) ≡ arrivals text ++ map (ForStation k) bytes)
    (reader : RecordReader) (read : HasRead reader (text ++ bytes)) (limit : input_limit reader ≡ input_limit run.reader) (stations : stations_of reader ≡ stations_of run.reader) where
  fine : input_fault rules.stations rules.bytes (text ++ bytes) ≡ None
  fine = ap (λ n. input_fault n rules.bytes (text ++ bytes)) (sym (stations ∙ h.stations)) ∙ ap (λ n. input_fault (stations_of reader) n (text ++ bytes)) (sym (limit ∙ h.limit)) ∙ read.no_fault

  pub plays_further : (run' : Run) → run'.reader ≡ reader → Holds rules run' (heard_by rules refused (scene_after rules refused text) k bytes) → HasPlayed rules run' refused (text ++ bytes)
  plays_further run' readers holds = record {
    read = rw readers read;
    limit = ap input_limit readers ∙ limit ∙ h.limit;
    stations = ap stations_of readers ∙ stations ∙ h.stations;
    in_form = record { reads = refl; no_fault = fine; few = omega (arith, read.within, read.taken, limit, h.limit, h.most) };
    most = h.most;
    holds = subst (λ (s : Scene). Holds rules run' s) (sym (scene_further rules refused text bytes k came)) holds;
    settled = stretch_settled rules refused text h.settled (text ++ bytes) k bytes (λ r. scene_further rules r text bytes k came);
  }

  pub same_text : (heard_by rules refused (scene_after rules refused text) k bytes).printed ≡ (scene_after rules refused text).printed
      → (task_of (Replay rules)).text (text ++ bytes) refused ≡ (task_of (Replay rules)).text text refused
  same_text same =
      text_is rules refused (text ++ bytes) fine ∙ ap (λ (s : Scene). flat_map printed_text s.printed) (scene_further rules refused text bytes k came)
      ∙ ap (flat_map printed_text) same ∙ sym (text_is rules refused text h.in_form.no_fault)
