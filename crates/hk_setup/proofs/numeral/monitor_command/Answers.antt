use Rattle.std.proofs.Common.{◌≡◌, ◌∙◌, true, codes, ap}
use Rattle.std.proofs.lemmas.Result.{IfOk-weaker}
use Rattle.clap.specs.Walk.{Rule}
use Rattle.clap.specs.Simple.{App, app_of, app_of_fields, new_app, on_top, with_rule}
use Rattle.hk_spec_monitor.specs.Setup.{number_rule, text_rule, stations_option, workers_option, flips_option, hop_option, songs_option, positions_option, versions_option, bytes_option, station_port_option, operator_port_option}
use Rattle.hk_setup.proofs.numeral.monitor_command.Goals as goal

more : (r : Rule) (a b c : App) → c ≡ with_rule a r → a ≡ b → c ≡ with_rule b r
more r a b c is same = is ∙ ap (λ (x : App). with_rule x r) same

pub returns : goal.returns
returns c =
    let named = c.new.ensures.app in
    let helpless : app_of c.disable_help_flag.result ≡ on_top (λ s. record s { disable_help_flag = true }) (new_app (codes "hkmon")) =
    ap app_of_fields c.disable_help_flag.ensures ∙ ap (on_top (λ s. record s { disable_help_flag = true })) named in
    let start : app_of c.disable_version_flag-command.result ≡ on_top (λ s. record s { disable_version_flag = true }) (on_top (λ s. record s { disable_help_flag = true }) (new_app (codes "hkmon"))) =
    ap app_of_fields c.disable_version_flag-command.ensures ∙ ap (on_top (λ s. record s { disable_version_flag = true })) helpless in
    let s1 = more (number_rule stations_option) _ _ _ c.in_ok-command.ensures start in
    let s2 = more (number_rule workers_option) _ _ _ c.in_ok-command-2.ensures s1 in
    let s3 = more (number_rule flips_option) _ _ _ c.in_ok-command-3.ensures s2 in
    let s4 = more (number_rule hop_option) _ _ _ c.in_ok-command-4.ensures s3 in
    let s5 = more (number_rule songs_option) _ _ _ c.in_ok-command-5.ensures s4 in
    let s6 = more (number_rule positions_option) _ _ _ c.in_ok-command-6.ensures s5 in
    let s7 = more (number_rule versions_option) _ _ _ c.in_ok-command-7.ensures s6 in
    let s8 = more (number_rule bytes_option) _ _ _ c.in_ok-command-8.ensures s7 in
    let s9 = more (number_rule station_port_option) _ _ _ c.in_ok-command-9.ensures s8 in
    let s10 = more (number_rule operator_port_option) _ _ _ c.in_ok-command-10.ensures s9 in
    let s11 = more (text_rule (codes "address")) _ _ _ c.in_ok-command-11.ensures s10 in
    IfOk-weaker c.with_text-2.result _ _ (λ r h. more (text_rule (codes "logs")) _ _ (app_of r) h s11) c.with_text-2.ensures
