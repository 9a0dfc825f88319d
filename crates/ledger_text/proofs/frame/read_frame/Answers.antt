use Rattle.std.proofs.Common.{rules, ◌≡◌, ◌∙◌, ◌^◌, [], List, ℕ, Option, Ok, Err, subst, IfSome, is_some, false, decimal, ap, sym}
use Rattle.std.specs.Option.{option_map_or}
use Rattle.std.proofs.lemmas.Result.{err_from_is_err_and}
use Rattle.afdx_frame.specs.declared.key.VlId.{VlId}
use Rattle.vl_config.specs.declared.class.Class.{Class}
use Rattle.integrity.specs.Sequence.{is_valid}
use Rattle.vl_judge.specs.Judgement.{is_regular, is_within}
use Rattle.redundancy.specs.Word.{redundancy_word}
use Rattle.integrity.specs.Word.{integrity_word}
use Rattle.policing.specs.Word.{policing_word}
use Rattle.vl_config.specs.Class.{class_word, is_addressed}
use Rattle.afdx_frame.specs.Frame.{network_letter}
use Rattle.verdict_ledger.specs.Text.{mask_text}
use Rattle.ledger_text.specs.Fields.{first_field, next_fields, fields_of, left_of}
use Rattle.ledger_text.specs.Reads.{Any, Below, Optional, dash_or}
use Rattle.ledger_text.specs.FrameText.{IsLengthRead, IsMaskOf, Leads, link_fits, link_text, stamp_bound}
use Rattle.ledger_text.specs.declared.fault.FrameFault.TheVariants as faults
use Rattle.ledger_text.proofs.Spelling.{make}
use Rattle.ledger_text.proofs.Faults.{got, missed, reads_any, told, whole, fits, fault_stamp, fault_network, fault_index, fault_link, fault_sequence, fault_class, fault_policing, fault_integrity, fault_redundancy, fault_kept, fault_mask, fault_last, ended}
use Rattle.ledger_text.proofs.frame.read_frame.Goals as goal

-- each verdict is there where it is reached
pub invariant_of-verdict : goal.invariant_of-verdict
invariant_of-verdict c =
    let x6 = got (Optional Any (is_regular c.in_ok-class.class)) (dash_or policing_word) c.next-7.result.now c.policing_of.result c.ok_or-7.result c.in_ok-policing.policing c.policing_of.ensures c.ok_or-7.ensures.ok_part c.in_ok-policing.was in
    let x7 = got (Optional Any (option_map_or is_within c.in_ok-policing.policing false)) (dash_or integrity_word) c.next-8.result.now c.integrity_of.result c.ok_or-8.result c.in_ok-integrity.integrity c.integrity_of.ensures c.ok_or-8.ensures.ok_part c.in_ok-integrity.was in
    let x8 = got (Optional Any (option_map_or is_valid c.in_ok-integrity.integrity false)) (dash_or redundancy_word) c.next-9.result.now c.redundancy_of.result c.ok_or-9.result c.in_ok-redundancy.redundancy c.redundancy_of.ensures c.ok_or-9.ensures.ok_part c.in_ok-redundancy.was in
    record { policing = x6.0.present; integrity = x7.0.present; redundancy = x8.0.present }

pub returns-in_err-stamp : goal.returns-in_err-stamp
returns-in_err-stamp c =
    let line = c.args.line.now in
    let fields = fields_of line in
    let l0 = c.new-fields.ensures in
    let none = missed (Below stamp_bound) (decimal) c.next.result.now c.number_of.result c.ok_or.result c.in_err-stamp.field-0.0 c.number_of.ensures c.ok_or.ensures.ok_part c.in_err-stamp.was in
    let here = c.next.ensures.field ∙ ap first_field l0 in
    told c.args.version line faults.Timestamp c.from_residual.result (search rules) (fault_stamp c.args.version fields (λ x h e. none x h (e ∙ sym here)))

pub returns-in_err-network : goal.returns-in_err-network
returns-in_err-network c =
    let line = c.args.line.now in
    let fields = fields_of line in
    let l0 = c.new-fields.ensures in
    let l1 = c.next.ensures.left ∙ ap next_fields l0 in
    let x0 = got (Below stamp_bound) (decimal) c.next.result.now c.number_of.result c.ok_or.result c.in_ok-stamp.stamp c.number_of.ensures c.ok_or.ensures.ok_part c.in_ok-stamp.was in
    let e0 = x0.1 ∙ (c.next.ensures.field ∙ ap first_field l0) in
    let none = missed (Any) (network_letter) c.next-2.result.now c.from_letter.result c.ok_or-2.result c.in_err-network.field-0.0 (reads_any (network_letter) c.next-2.result.now c.from_letter.result c.from_letter.ensures) c.ok_or-2.ensures.ok_part c.in_err-network.was in
    let here = c.next-2.ensures.field ∙ ap first_field l1 in
    told c.args.version line faults.Network c.from_residual-in_err-network.result (search rules) (fault_network c.args.version fields c.in_ok-stamp.stamp x0.0 (e0, tt) (λ x h e. none x h (e ∙ sym here)))

pub returns-in_err-number : goal.returns-in_err-number
returns-in_err-number c =
    let line = c.args.line.now in
    let fields = fields_of line in
    let l0 = c.new-fields.ensures in
    let l1 = c.next.ensures.left ∙ ap next_fields l0 in
    let l2 = c.next-2.ensures.left ∙ ap next_fields l1 in
    let x0 = got (Below stamp_bound) (decimal) c.next.result.now c.number_of.result c.ok_or.result c.in_ok-stamp.stamp c.number_of.ensures c.ok_or.ensures.ok_part c.in_ok-stamp.was in
    let e0 = x0.1 ∙ (c.next.ensures.field ∙ ap first_field l0) in
    let x1 = got (Any) (network_letter) c.next-2.result.now c.from_letter.result c.ok_or-2.result c.in_ok-network.network (reads_any (network_letter) c.next-2.result.now c.from_letter.result c.from_letter.ensures) c.ok_or-2.ensures.ok_part c.in_ok-network.was in
    let e1 = x1.1 ∙ (c.next-2.ensures.field ∙ ap first_field l1) in
    let none = missed (Below (2 ^ 32)) (decimal) c.next-3.result.now c.number_of-2.result c.ok_or-3.result c.in_err-number.field-0.0 c.number_of-2.ensures c.ok_or-3.ensures.ok_part c.in_err-number.was in
    let here = c.next-3.ensures.field ∙ ap first_field l2 in
    told c.args.version line faults.Index c.from_residual-in_err-number.result (search rules) (fault_index c.args.version fields c.in_ok-stamp.stamp c.in_ok-network.network x0.0 (e0, (e1, tt)) (λ x h e. none x h (e ∙ sym here)))

pub returns-in_err-link : goal.returns-in_err-link
returns-in_err-link c =
    let line = c.args.line.now in
    let fields = fields_of line in
    let l0 = c.new-fields.ensures in
    let l1 = c.next.ensures.left ∙ ap next_fields l0 in
    let l2 = c.next-2.ensures.left ∙ ap next_fields l1 in
    let l3 = c.next-3.ensures.left ∙ ap next_fields l2 in
    let x0 = got (Below stamp_bound) (decimal) c.next.result.now c.number_of.result c.ok_or.result c.in_ok-stamp.stamp c.number_of.ensures c.ok_or.ensures.ok_part c.in_ok-stamp.was in
    let e0 = x0.1 ∙ (c.next.ensures.field ∙ ap first_field l0) in
    let x1 = got (Any) (network_letter) c.next-2.result.now c.from_letter.result c.ok_or-2.result c.in_ok-network.network (reads_any (network_letter) c.next-2.result.now c.from_letter.result c.from_letter.ensures) c.ok_or-2.ensures.ok_part c.in_ok-network.was in
    let e1 = x1.1 ∙ (c.next-2.ensures.field ∙ ap first_field l1) in
    let x2 = got (Below (2 ^ 32)) (decimal) c.next-3.result.now c.number_of-2.result c.ok_or-3.result c.in_ok-number.number c.number_of-2.ensures c.ok_or-3.ensures.ok_part c.in_ok-number.was in
    let e2 = x2.1 ∙ (c.next-3.ensures.field ∙ ap first_field l2) in
    let none = missed (λ (x : Option VlId). IfSome x link_fits) (dash_or link_text) c.next-4.result.now c.link_of.result c.ok_or-4.result c.in_err-link.field-0.0 c.link_of.ensures c.ok_or-4.ensures.ok_part c.in_err-link.was in
    let here = c.next-4.ensures.field ∙ ap first_field l3 in
    told c.args.version line faults.Link c.from_residual-in_err-link.result (search rules) (fault_link c.args.version fields c.in_ok-stamp.stamp c.in_ok-network.network c.in_ok-number.number x0.0 x2.0 (e0, (e1, (e2, tt))) (λ x h e. none x h (e ∙ sym here)))

pub returns-in_err-sequence : goal.returns-in_err-sequence
returns-in_err-sequence c =
    let line = c.args.line.now in
    let fields = fields_of line in
    let l0 = c.new-fields.ensures in
    let l1 = c.next.ensures.left ∙ ap next_fields l0 in
    let l2 = c.next-2.ensures.left ∙ ap next_fields l1 in
    let l3 = c.next-3.ensures.left ∙ ap next_fields l2 in
    let l4 = c.next-4.ensures.left ∙ ap next_fields l3 in
    let x0 = got (Below stamp_bound) (decimal) c.next.result.now c.number_of.result c.ok_or.result c.in_ok-stamp.stamp c.number_of.ensures c.ok_or.ensures.ok_part c.in_ok-stamp.was in
    let e0 = x0.1 ∙ (c.next.ensures.field ∙ ap first_field l0) in
    let x1 = got (Any) (network_letter) c.next-2.result.now c.from_letter.result c.ok_or-2.result c.in_ok-network.network (reads_any (network_letter) c.next-2.result.now c.from_letter.result c.from_letter.ensures) c.ok_or-2.ensures.ok_part c.in_ok-network.was in
    let e1 = x1.1 ∙ (c.next-2.ensures.field ∙ ap first_field l1) in
    let x2 = got (Below (2 ^ 32)) (decimal) c.next-3.result.now c.number_of-2.result c.ok_or-3.result c.in_ok-number.number c.number_of-2.ensures c.ok_or-3.ensures.ok_part c.in_ok-number.was in
    let e2 = x2.1 ∙ (c.next-3.ensures.field ∙ ap first_field l2) in
    let x3 = got (λ (x : Option VlId). IfSome x link_fits) (dash_or link_text) c.next-4.result.now c.link_of.result c.ok_or-4.result c.in_ok-link.link c.link_of.ensures c.ok_or-4.ensures.ok_part c.in_ok-link.was in
    let e3 = x3.1 ∙ (c.next-4.ensures.field ∙ ap first_field l3) in
    let none = missed (Optional (Below (2 ^ 8)) (is_some c.in_ok-link.link)) (dash_or decimal) c.next-5.result.now c.sequence_of.result c.ok_or-5.result c.in_err-sequence.field-0.0 c.sequence_of.ensures c.ok_or-5.ensures.ok_part c.in_err-sequence.was in
    let here = c.next-5.ensures.field ∙ ap first_field l4 in
    told c.args.version line faults.Sequence c.from_residual-in_err-sequence.result (search rules) (fault_sequence c.args.version fields c.in_ok-stamp.stamp c.in_ok-network.network c.in_ok-number.number c.in_ok-link.link x0.0 x2.0 x3.0 (e0, (e1, (e2, (e3, tt)))) (λ x h e. none x h (e ∙ sym here)))

pub returns-in_err-class : goal.returns-in_err-class
returns-in_err-class c =
    let line = c.args.line.now in
    let fields = fields_of line in
    let l0 = c.new-fields.ensures in
    let l1 = c.next.ensures.left ∙ ap next_fields l0 in
    let l2 = c.next-2.ensures.left ∙ ap next_fields l1 in
    let l3 = c.next-3.ensures.left ∙ ap next_fields l2 in
    let l4 = c.next-4.ensures.left ∙ ap next_fields l3 in
    let l5 = c.next-5.ensures.left ∙ ap next_fields l4 in
    let x0 = got (Below stamp_bound) (decimal) c.next.result.now c.number_of.result c.ok_or.result c.in_ok-stamp.stamp c.number_of.ensures c.ok_or.ensures.ok_part c.in_ok-stamp.was in
    let e0 = x0.1 ∙ (c.next.ensures.field ∙ ap first_field l0) in
    let x1 = got (Any) (network_letter) c.next-2.result.now c.from_letter.result c.ok_or-2.result c.in_ok-network.network (reads_any (network_letter) c.next-2.result.now c.from_letter.result c.from_letter.ensures) c.ok_or-2.ensures.ok_part c.in_ok-network.was in
    let e1 = x1.1 ∙ (c.next-2.ensures.field ∙ ap first_field l1) in
    let x2 = got (Below (2 ^ 32)) (decimal) c.next-3.result.now c.number_of-2.result c.ok_or-3.result c.in_ok-number.number c.number_of-2.ensures c.ok_or-3.ensures.ok_part c.in_ok-number.was in
    let e2 = x2.1 ∙ (c.next-3.ensures.field ∙ ap first_field l2) in
    let x3 = got (λ (x : Option VlId). IfSome x link_fits) (dash_or link_text) c.next-4.result.now c.link_of.result c.ok_or-4.result c.in_ok-link.link c.link_of.ensures c.ok_or-4.ensures.ok_part c.in_ok-link.was in
    let e3 = x3.1 ∙ (c.next-4.ensures.field ∙ ap first_field l3) in
    let x4 = got (Optional (Below (2 ^ 8)) (is_some c.in_ok-link.link)) (dash_or decimal) c.next-5.result.now c.sequence_of.result c.ok_or-5.result c.in_ok-sequence.sequence c.sequence_of.ensures c.ok_or-5.ensures.ok_part c.in_ok-sequence.was in
    let e4 = x4.1 ∙ (c.next-5.ensures.field ∙ ap first_field l4) in
    let none = missed (λ (x : Class). is_addressed x ≡ is_some c.in_ok-link.link) (class_word) c.next-6.result.now c.class_with.result c.ok_or-6.result c.in_err-class.field-0.0 c.class_with.ensures c.ok_or-6.ensures.ok_part c.in_err-class.was in
    let here = c.next-6.ensures.field ∙ ap first_field l5 in
    told c.args.version line faults.Class c.from_residual-in_err-class.result (search rules) (fault_class c.args.version fields c.in_ok-stamp.stamp c.in_ok-network.network c.in_ok-number.number c.in_ok-link.link c.in_ok-sequence.sequence x0.0 x2.0 x3.0 x4.0 (e0, (e1, (e2, (e3, (e4, tt))))) (λ x h e. none x h (e ∙ sym here)))

pub returns-in_err-policing : goal.returns-in_err-policing
returns-in_err-policing c =
    let line = c.args.line.now in
    let fields = fields_of line in
    let l0 = c.new-fields.ensures in
    let l1 = c.next.ensures.left ∙ ap next_fields l0 in
    let l2 = c.next-2.ensures.left ∙ ap next_fields l1 in
    let l3 = c.next-3.ensures.left ∙ ap next_fields l2 in
    let l4 = c.next-4.ensures.left ∙ ap next_fields l3 in
    let l5 = c.next-5.ensures.left ∙ ap next_fields l4 in
    let l6 = c.next-6.ensures.left ∙ ap next_fields l5 in
    let x0 = got (Below stamp_bound) (decimal) c.next.result.now c.number_of.result c.ok_or.result c.in_ok-stamp.stamp c.number_of.ensures c.ok_or.ensures.ok_part c.in_ok-stamp.was in
    let e0 = x0.1 ∙ (c.next.ensures.field ∙ ap first_field l0) in
    let x1 = got (Any) (network_letter) c.next-2.result.now c.from_letter.result c.ok_or-2.result c.in_ok-network.network (reads_any (network_letter) c.next-2.result.now c.from_letter.result c.from_letter.ensures) c.ok_or-2.ensures.ok_part c.in_ok-network.was in
    let e1 = x1.1 ∙ (c.next-2.ensures.field ∙ ap first_field l1) in
    let x2 = got (Below (2 ^ 32)) (decimal) c.next-3.result.now c.number_of-2.result c.ok_or-3.result c.in_ok-number.number c.number_of-2.ensures c.ok_or-3.ensures.ok_part c.in_ok-number.was in
    let e2 = x2.1 ∙ (c.next-3.ensures.field ∙ ap first_field l2) in
    let x3 = got (λ (x : Option VlId). IfSome x link_fits) (dash_or link_text) c.next-4.result.now c.link_of.result c.ok_or-4.result c.in_ok-link.link c.link_of.ensures c.ok_or-4.ensures.ok_part c.in_ok-link.was in
    let e3 = x3.1 ∙ (c.next-4.ensures.field ∙ ap first_field l3) in
    let x4 = got (Optional (Below (2 ^ 8)) (is_some c.in_ok-link.link)) (dash_or decimal) c.next-5.result.now c.sequence_of.result c.ok_or-5.result c.in_ok-sequence.sequence c.sequence_of.ensures c.ok_or-5.ensures.ok_part c.in_ok-sequence.was in
    let e4 = x4.1 ∙ (c.next-5.ensures.field ∙ ap first_field l4) in
    let x5 = got (λ (x : Class). is_addressed x ≡ is_some c.in_ok-link.link) (class_word) c.next-6.result.now c.class_with.result c.ok_or-6.result c.in_ok-class.class c.class_with.ensures c.ok_or-6.ensures.ok_part c.in_ok-class.was in
    let e5 = x5.1 ∙ (c.next-6.ensures.field ∙ ap first_field l5) in
    let none = missed (Optional Any (is_regular c.in_ok-class.class)) (dash_or policing_word) c.next-7.result.now c.policing_of.result c.ok_or-7.result c.in_err-policing.field-0.0 c.policing_of.ensures c.ok_or-7.ensures.ok_part c.in_err-policing.was in
    let here = c.next-7.ensures.field ∙ ap first_field l6 in
    told c.args.version line faults.Policing c.from_residual-in_err-policing.result (search rules) (fault_policing c.args.version fields c.in_ok-stamp.stamp c.in_ok-network.network c.in_ok-number.number c.in_ok-link.link c.in_ok-sequence.sequence c.in_ok-class.class x0.0 x2.0 x3.0 x4.0 x5.0 (e0, (e1, (e2, (e3, (e4, (e5, tt)))))) (λ x h e. none x h (e ∙ sym here)))

pub returns-in_err-integrity : goal.returns-in_err-integrity
returns-in_err-integrity c =
    let line = c.args.line.now in
    let fields = fields_of line in
    let l0 = c.new-fields.ensures in
    let l1 = c.next.ensures.left ∙ ap next_fields l0 in
    let l2 = c.next-2.ensures.left ∙ ap next_fields l1 in
    let l3 = c.next-3.ensures.left ∙ ap next_fields l2 in
    let l4 = c.next-4.ensures.left ∙ ap next_fields l3 in
    let l5 = c.next-5.ensures.left ∙ ap next_fields l4 in
    let l6 = c.next-6.ensures.left ∙ ap next_fields l5 in
    let l7 = c.next-7.ensures.left ∙ ap next_fields l6 in
    let x0 = got (Below stamp_bound) (decimal) c.next.result.now c.number_of.result c.ok_or.result c.in_ok-stamp.stamp c.number_of.ensures c.ok_or.ensures.ok_part c.in_ok-stamp.was in
    let e0 = x0.1 ∙ (c.next.ensures.field ∙ ap first_field l0) in
    let x1 = got (Any) (network_letter) c.next-2.result.now c.from_letter.result c.ok_or-2.result c.in_ok-network.network (reads_any (network_letter) c.next-2.result.now c.from_letter.result c.from_letter.ensures) c.ok_or-2.ensures.ok_part c.in_ok-network.was in
    let e1 = x1.1 ∙ (c.next-2.ensures.field ∙ ap first_field l1) in
    let x2 = got (Below (2 ^ 32)) (decimal) c.next-3.result.now c.number_of-2.result c.ok_or-3.result c.in_ok-number.number c.number_of-2.ensures c.ok_or-3.ensures.ok_part c.in_ok-number.was in
    let e2 = x2.1 ∙ (c.next-3.ensures.field ∙ ap first_field l2) in
    let x3 = got (λ (x : Option VlId). IfSome x link_fits) (dash_or link_text) c.next-4.result.now c.link_of.result c.ok_or-4.result c.in_ok-link.link c.link_of.ensures c.ok_or-4.ensures.ok_part c.in_ok-link.was in
    let e3 = x3.1 ∙ (c.next-4.ensures.field ∙ ap first_field l3) in
    let x4 = got (Optional (Below (2 ^ 8)) (is_some c.in_ok-link.link)) (dash_or decimal) c.next-5.result.now c.sequence_of.result c.ok_or-5.result c.in_ok-sequence.sequence c.sequence_of.ensures c.ok_or-5.ensures.ok_part c.in_ok-sequence.was in
    let e4 = x4.1 ∙ (c.next-5.ensures.field ∙ ap first_field l4) in
    let x5 = got (λ (x : Class). is_addressed x ≡ is_some c.in_ok-link.link) (class_word) c.next-6.result.now c.class_with.result c.ok_or-6.result c.in_ok-class.class c.class_with.ensures c.ok_or-6.ensures.ok_part c.in_ok-class.was in
    let e5 = x5.1 ∙ (c.next-6.ensures.field ∙ ap first_field l5) in
    let x6 = got (Optional Any (is_regular c.in_ok-class.class)) (dash_or policing_word) c.next-7.result.now c.policing_of.result c.ok_or-7.result c.in_ok-policing.policing c.policing_of.ensures c.ok_or-7.ensures.ok_part c.in_ok-policing.was in
    let e6 = x6.1 ∙ (c.next-7.ensures.field ∙ ap first_field l6) in
    let none = missed (Optional Any (option_map_or is_within c.in_ok-policing.policing false)) (dash_or integrity_word) c.next-8.result.now c.integrity_of.result c.ok_or-8.result c.in_err-integrity.field-0.0 c.integrity_of.ensures c.ok_or-8.ensures.ok_part c.in_err-integrity.was in
    let here = c.next-8.ensures.field ∙ ap first_field l7 in
    told c.args.version line faults.Integrity c.from_residual-in_err-integrity.result (search rules) (fault_integrity c.args.version fields c.in_ok-stamp.stamp c.in_ok-network.network c.in_ok-number.number c.in_ok-link.link c.in_ok-sequence.sequence c.in_ok-class.class c.in_ok-policing.policing x0.0 x2.0 x3.0 x4.0 x5.0 x6.0.present (e0, (e1, (e2, (e3, (e4, (e5, (e6, tt))))))) (λ x h e. none x h (e ∙ sym here)))

pub returns-in_err-redundancy : goal.returns-in_err-redundancy
returns-in_err-redundancy c =
    let line = c.args.line.now in
    let fields = fields_of line in
    let l0 = c.new-fields.ensures in
    let l1 = c.next.ensures.left ∙ ap next_fields l0 in
    let l2 = c.next-2.ensures.left ∙ ap next_fields l1 in
    let l3 = c.next-3.ensures.left ∙ ap next_fields l2 in
    let l4 = c.next-4.ensures.left ∙ ap next_fields l3 in
    let l5 = c.next-5.ensures.left ∙ ap next_fields l4 in
    let l6 = c.next-6.ensures.left ∙ ap next_fields l5 in
    let l7 = c.next-7.ensures.left ∙ ap next_fields l6 in
    let l8 = c.next-8.ensures.left ∙ ap next_fields l7 in
    let x0 = got (Below stamp_bound) (decimal) c.next.result.now c.number_of.result c.ok_or.result c.in_ok-stamp.stamp c.number_of.ensures c.ok_or.ensures.ok_part c.in_ok-stamp.was in
    let e0 = x0.1 ∙ (c.next.ensures.field ∙ ap first_field l0) in
    let x1 = got (Any) (network_letter) c.next-2.result.now c.from_letter.result c.ok_or-2.result c.in_ok-network.network (reads_any (network_letter) c.next-2.result.now c.from_letter.result c.from_letter.ensures) c.ok_or-2.ensures.ok_part c.in_ok-network.was in
    let e1 = x1.1 ∙ (c.next-2.ensures.field ∙ ap first_field l1) in
    let x2 = got (Below (2 ^ 32)) (decimal) c.next-3.result.now c.number_of-2.result c.ok_or-3.result c.in_ok-number.number c.number_of-2.ensures c.ok_or-3.ensures.ok_part c.in_ok-number.was in
    let e2 = x2.1 ∙ (c.next-3.ensures.field ∙ ap first_field l2) in
    let x3 = got (λ (x : Option VlId). IfSome x link_fits) (dash_or link_text) c.next-4.result.now c.link_of.result c.ok_or-4.result c.in_ok-link.link c.link_of.ensures c.ok_or-4.ensures.ok_part c.in_ok-link.was in
    let e3 = x3.1 ∙ (c.next-4.ensures.field ∙ ap first_field l3) in
    let x4 = got (Optional (Below (2 ^ 8)) (is_some c.in_ok-link.link)) (dash_or decimal) c.next-5.result.now c.sequence_of.result c.ok_or-5.result c.in_ok-sequence.sequence c.sequence_of.ensures c.ok_or-5.ensures.ok_part c.in_ok-sequence.was in
    let e4 = x4.1 ∙ (c.next-5.ensures.field ∙ ap first_field l4) in
    let x5 = got (λ (x : Class). is_addressed x ≡ is_some c.in_ok-link.link) (class_word) c.next-6.result.now c.class_with.result c.ok_or-6.result c.in_ok-class.class c.class_with.ensures c.ok_or-6.ensures.ok_part c.in_ok-class.was in
    let e5 = x5.1 ∙ (c.next-6.ensures.field ∙ ap first_field l5) in
    let x6 = got (Optional Any (is_regular c.in_ok-class.class)) (dash_or policing_word) c.next-7.result.now c.policing_of.result c.ok_or-7.result c.in_ok-policing.policing c.policing_of.ensures c.ok_or-7.ensures.ok_part c.in_ok-policing.was in
    let e6 = x6.1 ∙ (c.next-7.ensures.field ∙ ap first_field l6) in
    let x7 = got (Optional Any (option_map_or is_within c.in_ok-policing.policing false)) (dash_or integrity_word) c.next-8.result.now c.integrity_of.result c.ok_or-8.result c.in_ok-integrity.integrity c.integrity_of.ensures c.ok_or-8.ensures.ok_part c.in_ok-integrity.was in
    let e7 = x7.1 ∙ (c.next-8.ensures.field ∙ ap first_field l7) in
    let none = missed (Optional Any (option_map_or is_valid c.in_ok-integrity.integrity false)) (dash_or redundancy_word) c.next-9.result.now c.redundancy_of.result c.ok_or-9.result c.in_err-redundancy.field-0.0 c.redundancy_of.ensures c.ok_or-9.ensures.ok_part c.in_err-redundancy.was in
    let here = c.next-9.ensures.field ∙ ap first_field l8 in
    told c.args.version line faults.Redundancy c.from_residual-in_err-redundancy.result (search rules) (fault_redundancy c.args.version fields c.in_ok-stamp.stamp c.in_ok-network.network c.in_ok-number.number c.in_ok-link.link c.in_ok-sequence.sequence c.in_ok-class.class c.in_ok-policing.policing c.in_ok-integrity.integrity x0.0 x2.0 x3.0 x4.0 x5.0 x6.0.present x7.0.present (e0, (e1, (e2, (e3, (e4, (e5, (e6, (e7, tt)))))))) (λ x h e. none x h (e ∙ sym here)))

pub returns-in_err-kept : goal.returns-in_err-kept
returns-in_err-kept c =
    let line = c.args.line.now in
    let fields = fields_of line in
    let l0 = c.new-fields.ensures in
    let l1 = c.next.ensures.left ∙ ap next_fields l0 in
    let l2 = c.next-2.ensures.left ∙ ap next_fields l1 in
    let l3 = c.next-3.ensures.left ∙ ap next_fields l2 in
    let l4 = c.next-4.ensures.left ∙ ap next_fields l3 in
    let l5 = c.next-5.ensures.left ∙ ap next_fields l4 in
    let l6 = c.next-6.ensures.left ∙ ap next_fields l5 in
    let l7 = c.next-7.ensures.left ∙ ap next_fields l6 in
    let l8 = c.next-8.ensures.left ∙ ap next_fields l7 in
    let l9 = c.next-9.ensures.left ∙ ap next_fields l8 in
    let x0 = got (Below stamp_bound) (decimal) c.next.result.now c.number_of.result c.ok_or.result c.in_ok-stamp.stamp c.number_of.ensures c.ok_or.ensures.ok_part c.in_ok-stamp.was in
    let e0 = x0.1 ∙ (c.next.ensures.field ∙ ap first_field l0) in
    let x1 = got (Any) (network_letter) c.next-2.result.now c.from_letter.result c.ok_or-2.result c.in_ok-network.network (reads_any (network_letter) c.next-2.result.now c.from_letter.result c.from_letter.ensures) c.ok_or-2.ensures.ok_part c.in_ok-network.was in
    let e1 = x1.1 ∙ (c.next-2.ensures.field ∙ ap first_field l1) in
    let x2 = got (Below (2 ^ 32)) (decimal) c.next-3.result.now c.number_of-2.result c.ok_or-3.result c.in_ok-number.number c.number_of-2.ensures c.ok_or-3.ensures.ok_part c.in_ok-number.was in
    let e2 = x2.1 ∙ (c.next-3.ensures.field ∙ ap first_field l2) in
    let x3 = got (λ (x : Option VlId). IfSome x link_fits) (dash_or link_text) c.next-4.result.now c.link_of.result c.ok_or-4.result c.in_ok-link.link c.link_of.ensures c.ok_or-4.ensures.ok_part c.in_ok-link.was in
    let e3 = x3.1 ∙ (c.next-4.ensures.field ∙ ap first_field l3) in
    let x4 = got (Optional (Below (2 ^ 8)) (is_some c.in_ok-link.link)) (dash_or decimal) c.next-5.result.now c.sequence_of.result c.ok_or-5.result c.in_ok-sequence.sequence c.sequence_of.ensures c.ok_or-5.ensures.ok_part c.in_ok-sequence.was in
    let e4 = x4.1 ∙ (c.next-5.ensures.field ∙ ap first_field l4) in
    let x5 = got (λ (x : Class). is_addressed x ≡ is_some c.in_ok-link.link) (class_word) c.next-6.result.now c.class_with.result c.ok_or-6.result c.in_ok-class.class c.class_with.ensures c.ok_or-6.ensures.ok_part c.in_ok-class.was in
    let e5 = x5.1 ∙ (c.next-6.ensures.field ∙ ap first_field l5) in
    let x6 = got (Optional Any (is_regular c.in_ok-class.class)) (dash_or policing_word) c.next-7.result.now c.policing_of.result c.ok_or-7.result c.in_ok-policing.policing c.policing_of.ensures c.ok_or-7.ensures.ok_part c.in_ok-policing.was in
    let e6 = x6.1 ∙ (c.next-7.ensures.field ∙ ap first_field l6) in
    let x7 = got (Optional Any (option_map_or is_within c.in_ok-policing.policing false)) (dash_or integrity_word) c.next-8.result.now c.integrity_of.result c.ok_or-8.result c.in_ok-integrity.integrity c.integrity_of.ensures c.ok_or-8.ensures.ok_part c.in_ok-integrity.was in
    let e7 = x7.1 ∙ (c.next-8.ensures.field ∙ ap first_field l7) in
    let x8 = got (Optional Any (option_map_or is_valid c.in_ok-integrity.integrity false)) (dash_or redundancy_word) c.next-9.result.now c.redundancy_of.result c.ok_or-9.result c.in_ok-redundancy.redundancy c.redundancy_of.ensures c.ok_or-9.ensures.ok_part c.in_ok-redundancy.was in
    let e8 = x8.1 ∙ (c.next-9.ensures.field ∙ ap first_field l8) in
    let none = missed (λ (x : Option ℕ). IfSome x (Below (2 ^ 32))) (dash_or decimal) c.next-10.result.now c.kept_of.result c.ok_or-10.result c.in_err-kept.field-0.0 c.kept_of.ensures c.ok_or-10.ensures.ok_part c.in_err-kept.was in
    let here = c.next-10.ensures.field ∙ ap first_field l9 in
    told c.args.version line faults.Kept c.from_residual-in_err-kept.result (search rules) (fault_kept c.args.version fields c.in_ok-stamp.stamp c.in_ok-network.network c.in_ok-number.number c.in_ok-link.link c.in_ok-sequence.sequence c.in_ok-class.class c.in_ok-policing.policing c.in_ok-integrity.integrity c.in_ok-redundancy.redundancy x0.0 x2.0 x3.0 x4.0 x5.0 x6.0.present x7.0.present x8.0.present (e0, (e1, (e2, (e3, (e4, (e5, (e6, (e7, (e8, tt))))))))) (λ x h e. none x h (e ∙ sym here)))

pub returns-in_err-mask : goal.returns-in_err-mask
returns-in_err-mask c =
    let line = c.args.line.now in
    let fields = fields_of line in
    let l0 = c.new-fields.ensures in
    let l1 = c.next.ensures.left ∙ ap next_fields l0 in
    let l2 = c.next-2.ensures.left ∙ ap next_fields l1 in
    let l3 = c.next-3.ensures.left ∙ ap next_fields l2 in
    let l4 = c.next-4.ensures.left ∙ ap next_fields l3 in
    let l5 = c.next-5.ensures.left ∙ ap next_fields l4 in
    let l6 = c.next-6.ensures.left ∙ ap next_fields l5 in
    let l7 = c.next-7.ensures.left ∙ ap next_fields l6 in
    let l8 = c.next-8.ensures.left ∙ ap next_fields l7 in
    let l9 = c.next-9.ensures.left ∙ ap next_fields l8 in
    let l10 = c.next-10.ensures.left ∙ ap next_fields l9 in
    let x0 = got (Below stamp_bound) (decimal) c.next.result.now c.number_of.result c.ok_or.result c.in_ok-stamp.stamp c.number_of.ensures c.ok_or.ensures.ok_part c.in_ok-stamp.was in
    let e0 = x0.1 ∙ (c.next.ensures.field ∙ ap first_field l0) in
    let x1 = got (Any) (network_letter) c.next-2.result.now c.from_letter.result c.ok_or-2.result c.in_ok-network.network (reads_any (network_letter) c.next-2.result.now c.from_letter.result c.from_letter.ensures) c.ok_or-2.ensures.ok_part c.in_ok-network.was in
    let e1 = x1.1 ∙ (c.next-2.ensures.field ∙ ap first_field l1) in
    let x2 = got (Below (2 ^ 32)) (decimal) c.next-3.result.now c.number_of-2.result c.ok_or-3.result c.in_ok-number.number c.number_of-2.ensures c.ok_or-3.ensures.ok_part c.in_ok-number.was in
    let e2 = x2.1 ∙ (c.next-3.ensures.field ∙ ap first_field l2) in
    let x3 = got (λ (x : Option VlId). IfSome x link_fits) (dash_or link_text) c.next-4.result.now c.link_of.result c.ok_or-4.result c.in_ok-link.link c.link_of.ensures c.ok_or-4.ensures.ok_part c.in_ok-link.was in
    let e3 = x3.1 ∙ (c.next-4.ensures.field ∙ ap first_field l3) in
    let x4 = got (Optional (Below (2 ^ 8)) (is_some c.in_ok-link.link)) (dash_or decimal) c.next-5.result.now c.sequence_of.result c.ok_or-5.result c.in_ok-sequence.sequence c.sequence_of.ensures c.ok_or-5.ensures.ok_part c.in_ok-sequence.was in
    let e4 = x4.1 ∙ (c.next-5.ensures.field ∙ ap first_field l4) in
    let x5 = got (λ (x : Class). is_addressed x ≡ is_some c.in_ok-link.link) (class_word) c.next-6.result.now c.class_with.result c.ok_or-6.result c.in_ok-class.class c.class_with.ensures c.ok_or-6.ensures.ok_part c.in_ok-class.was in
    let e5 = x5.1 ∙ (c.next-6.ensures.field ∙ ap first_field l5) in
    let x6 = got (Optional Any (is_regular c.in_ok-class.class)) (dash_or policing_word) c.next-7.result.now c.policing_of.result c.ok_or-7.result c.in_ok-policing.policing c.policing_of.ensures c.ok_or-7.ensures.ok_part c.in_ok-policing.was in
    let e6 = x6.1 ∙ (c.next-7.ensures.field ∙ ap first_field l6) in
    let x7 = got (Optional Any (option_map_or is_within c.in_ok-policing.policing false)) (dash_or integrity_word) c.next-8.result.now c.integrity_of.result c.ok_or-8.result c.in_ok-integrity.integrity c.integrity_of.ensures c.ok_or-8.ensures.ok_part c.in_ok-integrity.was in
    let e7 = x7.1 ∙ (c.next-8.ensures.field ∙ ap first_field l7) in
    let x8 = got (Optional Any (option_map_or is_valid c.in_ok-integrity.integrity false)) (dash_or redundancy_word) c.next-9.result.now c.redundancy_of.result c.ok_or-9.result c.in_ok-redundancy.redundancy c.redundancy_of.ensures c.ok_or-9.ensures.ok_part c.in_ok-redundancy.was in
    let e8 = x8.1 ∙ (c.next-9.ensures.field ∙ ap first_field l8) in
    let x9 = got (λ (x : Option ℕ). IfSome x (Below (2 ^ 32))) (dash_or decimal) c.next-10.result.now c.kept_of.result c.ok_or-10.result c.in_ok-kept.kept c.kept_of.ensures c.ok_or-10.ensures.ok_part c.in_ok-kept.was in
    let e9 = x9.1 ∙ (c.next-10.ensures.field ∙ ap first_field l9) in
    let none = missed (IsMaskOf c.in_ok-kept.kept) (mask_text) c.next-11.result.now c.mask_with.result c.ok_or-11.result c.in_err-mask.field-0.0 c.mask_with.ensures c.ok_or-11.ensures.ok_part c.in_err-mask.was in
    let here = c.next-11.ensures.field ∙ ap first_field l10 in
    told c.args.version line faults.Mask c.from_residual-in_err-mask.result (search rules) (fault_mask c.args.version fields c.in_ok-stamp.stamp c.in_ok-network.network c.in_ok-number.number c.in_ok-link.link c.in_ok-sequence.sequence c.in_ok-class.class c.in_ok-policing.policing c.in_ok-integrity.integrity c.in_ok-redundancy.redundancy c.in_ok-kept.kept x0.0 x2.0 x3.0 x4.0 x5.0 x6.0.present x7.0.present x8.0.present x9.0 (e0, (e1, (e2, (e3, (e4, (e5, (e6, (e7, (e8, (e9, tt)))))))))) (λ x h e. none x h (e ∙ sym here)))

pub returns-in_err-length : goal.returns-in_err-length
returns-in_err-length c =
    let line = c.args.line.now in
    let fields = fields_of line in
    let l0 = c.new-fields.ensures in
    let l1 = c.next.ensures.left ∙ ap next_fields l0 in
    let l2 = c.next-2.ensures.left ∙ ap next_fields l1 in
    let l3 = c.next-3.ensures.left ∙ ap next_fields l2 in
    let l4 = c.next-4.ensures.left ∙ ap next_fields l3 in
    let l5 = c.next-5.ensures.left ∙ ap next_fields l4 in
    let l6 = c.next-6.ensures.left ∙ ap next_fields l5 in
    let l7 = c.next-7.ensures.left ∙ ap next_fields l6 in
    let l8 = c.next-8.ensures.left ∙ ap next_fields l7 in
    let l9 = c.next-9.ensures.left ∙ ap next_fields l8 in
    let l10 = c.next-10.ensures.left ∙ ap next_fields l9 in
    let l11 = c.next-11.ensures.left ∙ ap next_fields l10 in
    let x0 = got (Below stamp_bound) (decimal) c.next.result.now c.number_of.result c.ok_or.result c.in_ok-stamp.stamp c.number_of.ensures c.ok_or.ensures.ok_part c.in_ok-stamp.was in
    let e0 = x0.1 ∙ (c.next.ensures.field ∙ ap first_field l0) in
    let x1 = got (Any) (network_letter) c.next-2.result.now c.from_letter.result c.ok_or-2.result c.in_ok-network.network (reads_any (network_letter) c.next-2.result.now c.from_letter.result c.from_letter.ensures) c.ok_or-2.ensures.ok_part c.in_ok-network.was in
    let e1 = x1.1 ∙ (c.next-2.ensures.field ∙ ap first_field l1) in
    let x2 = got (Below (2 ^ 32)) (decimal) c.next-3.result.now c.number_of-2.result c.ok_or-3.result c.in_ok-number.number c.number_of-2.ensures c.ok_or-3.ensures.ok_part c.in_ok-number.was in
    let e2 = x2.1 ∙ (c.next-3.ensures.field ∙ ap first_field l2) in
    let x3 = got (λ (x : Option VlId). IfSome x link_fits) (dash_or link_text) c.next-4.result.now c.link_of.result c.ok_or-4.result c.in_ok-link.link c.link_of.ensures c.ok_or-4.ensures.ok_part c.in_ok-link.was in
    let e3 = x3.1 ∙ (c.next-4.ensures.field ∙ ap first_field l3) in
    let x4 = got (Optional (Below (2 ^ 8)) (is_some c.in_ok-link.link)) (dash_or decimal) c.next-5.result.now c.sequence_of.result c.ok_or-5.result c.in_ok-sequence.sequence c.sequence_of.ensures c.ok_or-5.ensures.ok_part c.in_ok-sequence.was in
    let e4 = x4.1 ∙ (c.next-5.ensures.field ∙ ap first_field l4) in
    let x5 = got (λ (x : Class). is_addressed x ≡ is_some c.in_ok-link.link) (class_word) c.next-6.result.now c.class_with.result c.ok_or-6.result c.in_ok-class.class c.class_with.ensures c.ok_or-6.ensures.ok_part c.in_ok-class.was in
    let e5 = x5.1 ∙ (c.next-6.ensures.field ∙ ap first_field l5) in
    let x6 = got (Optional Any (is_regular c.in_ok-class.class)) (dash_or policing_word) c.next-7.result.now c.policing_of.result c.ok_or-7.result c.in_ok-policing.policing c.policing_of.ensures c.ok_or-7.ensures.ok_part c.in_ok-policing.was in
    let e6 = x6.1 ∙ (c.next-7.ensures.field ∙ ap first_field l6) in
    let x7 = got (Optional Any (option_map_or is_within c.in_ok-policing.policing false)) (dash_or integrity_word) c.next-8.result.now c.integrity_of.result c.ok_or-8.result c.in_ok-integrity.integrity c.integrity_of.ensures c.ok_or-8.ensures.ok_part c.in_ok-integrity.was in
    let e7 = x7.1 ∙ (c.next-8.ensures.field ∙ ap first_field l7) in
    let x8 = got (Optional Any (option_map_or is_valid c.in_ok-integrity.integrity false)) (dash_or redundancy_word) c.next-9.result.now c.redundancy_of.result c.ok_or-9.result c.in_ok-redundancy.redundancy c.redundancy_of.ensures c.ok_or-9.ensures.ok_part c.in_ok-redundancy.was in
    let e8 = x8.1 ∙ (c.next-9.ensures.field ∙ ap first_field l8) in
    let x9 = got (λ (x : Option ℕ). IfSome x (Below (2 ^ 32))) (dash_or decimal) c.next-10.result.now c.kept_of.result c.ok_or-10.result c.in_ok-kept.kept c.kept_of.ensures c.ok_or-10.ensures.ok_part c.in_ok-kept.was in
    let e9 = x9.1 ∙ (c.next-10.ensures.field ∙ ap first_field l9) in
    let x10 = got (IsMaskOf c.in_ok-kept.kept) (mask_text) c.next-11.result.now c.mask_with.result c.ok_or-11.result c.in_ok-mask.mask c.mask_with.ensures c.ok_or-11.ensures.ok_part c.in_ok-mask.was in
    let e10 = x10.1 ∙ (c.next-11.ensures.field ∙ ap first_field l10) in
    let p = err_from_is_err_and c.from_residual-in_err-length.result c.from_residual-in_err-length.ensures.1 in
    let fault = c.in_err-length.field-0.0 in
    let reads : IsLengthRead c.args.version (left_of c.next-11.new.self) (Err fault) = subst (IsLengthRead c.args.version (left_of c.next-11.new.self)) c.in_err-length.was c.length_of.ensures in
    let last = subst (λ (fs : List (List ℕ)). IsLengthRead c.args.version fs (Err fault)) l11 reads in
    told c.args.version line fault c.from_residual-in_err-length.result (p.1 ∙ ap Err p.2)
    (fault_last c.args.version fields c.in_ok-stamp.stamp c.in_ok-network.network c.in_ok-number.number c.in_ok-link.link c.in_ok-sequence.sequence c.in_ok-class.class c.in_ok-policing.policing c.in_ok-integrity.integrity c.in_ok-redundancy.redundancy c.in_ok-kept.kept c.in_ok-mask.mask x0.0 x2.0 x3.0 x4.0 x5.0 x6.0.present x7.0.present x8.0.present x9.0 x10.0 (e0, (e1, (e2, (e3, (e4, (e5, (e6, (e7, (e8, (e9, (e10, tt))))))))))) fault last)

pub returns : goal.returns
returns c =
    let line = c.args.line.now in
    let fields = fields_of line in
    let l0 = c.new-fields.ensures in
    let l1 = c.next.ensures.left ∙ ap next_fields l0 in
    let l2 = c.next-2.ensures.left ∙ ap next_fields l1 in
    let l3 = c.next-3.ensures.left ∙ ap next_fields l2 in
    let l4 = c.next-4.ensures.left ∙ ap next_fields l3 in
    let l5 = c.next-5.ensures.left ∙ ap next_fields l4 in
    let l6 = c.next-6.ensures.left ∙ ap next_fields l5 in
    let l7 = c.next-7.ensures.left ∙ ap next_fields l6 in
    let l8 = c.next-8.ensures.left ∙ ap next_fields l7 in
    let l9 = c.next-9.ensures.left ∙ ap next_fields l8 in
    let l10 = c.next-10.ensures.left ∙ ap next_fields l9 in
    let l11 = c.next-11.ensures.left ∙ ap next_fields l10 in
    let x0 = got (Below stamp_bound) (decimal) c.next.result.now c.number_of.result c.ok_or.result c.in_ok-stamp.stamp c.number_of.ensures c.ok_or.ensures.ok_part c.in_ok-stamp.was in
    let e0 = x0.1 ∙ (c.next.ensures.field ∙ ap first_field l0) in
    let x1 = got (Any) (network_letter) c.next-2.result.now c.from_letter.result c.ok_or-2.result c.in_ok-network.network (reads_any (network_letter) c.next-2.result.now c.from_letter.result c.from_letter.ensures) c.ok_or-2.ensures.ok_part c.in_ok-network.was in
    let e1 = x1.1 ∙ (c.next-2.ensures.field ∙ ap first_field l1) in
    let x2 = got (Below (2 ^ 32)) (decimal) c.next-3.result.now c.number_of-2.result c.ok_or-3.result c.in_ok-number.number c.number_of-2.ensures c.ok_or-3.ensures.ok_part c.in_ok-number.was in
    let e2 = x2.1 ∙ (c.next-3.ensures.field ∙ ap first_field l2) in
    let x3 = got (λ (x : Option VlId). IfSome x link_fits) (dash_or link_text) c.next-4.result.now c.link_of.result c.ok_or-4.result c.in_ok-link.link c.link_of.ensures c.ok_or-4.ensures.ok_part c.in_ok-link.was in
    let e3 = x3.1 ∙ (c.next-4.ensures.field ∙ ap first_field l3) in
    let x4 = got (Optional (Below (2 ^ 8)) (is_some c.in_ok-link.link)) (dash_or decimal) c.next-5.result.now c.sequence_of.result c.ok_or-5.result c.in_ok-sequence.sequence c.sequence_of.ensures c.ok_or-5.ensures.ok_part c.in_ok-sequence.was in
    let e4 = x4.1 ∙ (c.next-5.ensures.field ∙ ap first_field l4) in
    let x5 = got (λ (x : Class). is_addressed x ≡ is_some c.in_ok-link.link) (class_word) c.next-6.result.now c.class_with.result c.ok_or-6.result c.in_ok-class.class c.class_with.ensures c.ok_or-6.ensures.ok_part c.in_ok-class.was in
    let e5 = x5.1 ∙ (c.next-6.ensures.field ∙ ap first_field l5) in
    let x6 = got (Optional Any (is_regular c.in_ok-class.class)) (dash_or policing_word) c.next-7.result.now c.policing_of.result c.ok_or-7.result c.in_ok-policing.policing c.policing_of.ensures c.ok_or-7.ensures.ok_part c.in_ok-policing.was in
    let e6 = x6.1 ∙ (c.next-7.ensures.field ∙ ap first_field l6) in
    let x7 = got (Optional Any (option_map_or is_within c.in_ok-policing.policing false)) (dash_or integrity_word) c.next-8.result.now c.integrity_of.result c.ok_or-8.result c.in_ok-integrity.integrity c.integrity_of.ensures c.ok_or-8.ensures.ok_part c.in_ok-integrity.was in
    let e7 = x7.1 ∙ (c.next-8.ensures.field ∙ ap first_field l7) in
    let x8 = got (Optional Any (option_map_or is_valid c.in_ok-integrity.integrity false)) (dash_or redundancy_word) c.next-9.result.now c.redundancy_of.result c.ok_or-9.result c.in_ok-redundancy.redundancy c.redundancy_of.ensures c.ok_or-9.ensures.ok_part c.in_ok-redundancy.was in
    let e8 = x8.1 ∙ (c.next-9.ensures.field ∙ ap first_field l8) in
    let x9 = got (λ (x : Option ℕ). IfSome x (Below (2 ^ 32))) (dash_or decimal) c.next-10.result.now c.kept_of.result c.ok_or-10.result c.in_ok-kept.kept c.kept_of.ensures c.ok_or-10.ensures.ok_part c.in_ok-kept.was in
    let e9 = x9.1 ∙ (c.next-10.ensures.field ∙ ap first_field l9) in
    let x10 = got (IsMaskOf c.in_ok-kept.kept) (mask_text) c.next-11.result.now c.mask_with.result c.ok_or-11.result c.in_ok-mask.mask c.mask_with.ensures c.ok_or-11.ensures.ok_part c.in_ok-mask.was in
    let e10 = x10.1 ∙ (c.next-11.ensures.field ∙ ap first_field l10) in
    let read : IsLengthRead c.args.version (left_of c.next-11.new.self) (Ok c.in_ok-length.length) = subst (IsLengthRead c.args.version (left_of c.next-11.new.self)) c.in_ok-length.was c.length_of.ensures in
    let end = subst (λ (fs : List (List ℕ)). Leads c.in_ok-length.length (λ rest. rest ≡ []) fs) l11 read.1 in
    let fit = fits c.args.version c.in_ok-stamp.stamp c.in_ok-network.network c.in_ok-number.number c.in_ok-link.link c.in_ok-sequence.sequence c.in_ok-class.class c.in_ok-policing.policing c.in_ok-integrity.integrity c.in_ok-redundancy.redundancy c.in_ok-kept.kept c.in_ok-mask.mask c.in_ok-length.length
    (record { stamp = x0.0; number = x2.0; link = x3.0; sequence = x4.0; class = x5.0; policing = x6.0.present; integrity = x7.0.present; redundancy = x8.0.present; kept = x9.0; mask = x10.0; length = read.0 }) in
    whole c.args.version line (make c.in_ok-stamp.stamp c.in_ok-network.network c.in_ok-number.number c.in_ok-link.link c.in_ok-sequence.sequence c.in_ok-class.class c.in_ok-policing.policing c.in_ok-integrity.integrity c.in_ok-redundancy.redundancy c.in_ok-kept.kept c.in_ok-mask.mask c.in_ok-length.length) fit
    (ended c.in_ok-length.length (decimal c.in_ok-stamp.stamp) (network_letter c.in_ok-network.network) (decimal c.in_ok-number.number) (dash_or link_text c.in_ok-link.link) (dash_or decimal c.in_ok-sequence.sequence) (class_word c.in_ok-class.class) (dash_or policing_word c.in_ok-policing.policing) (dash_or integrity_word c.in_ok-integrity.integrity) (dash_or redundancy_word c.in_ok-redundancy.redundancy) (dash_or decimal c.in_ok-kept.kept) (mask_text c.in_ok-mask.mask)
    fields (e0, (e1, (e2, (e3, (e4, (e5, (e6, (e7, (e8, (e9, (e10, tt))))))))))) end)
