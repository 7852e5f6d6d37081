use Rattle.docket_http.proofs.Fronts.{first_cut, front_of_parts, not_whole, whole_of_parts}
use Rattle.docket_http.proofs.sending.write_parts.Goals as goal

pub returns-in_err-write_bytes : goal.returns-in_err-write_bytes
returns-in_err-write_bytes g c =
    let before = g.W.Write.contents c.args.writer.now in
    let after = g.W.Write.contents c.write_bytes.new.writer in
    record {
      whole = not_whole c.from_residual.result _ _ c.from_residual.ensures.1;
      front = first_cut c.from_residual.result before after c.args.head.now c.args.body.now c.in_err-write_bytes.ensures.front;
    }

pub returns : goal.returns
returns g c =
    let before = g.W.Write.contents c.args.writer.now in
    let between = g.W.Write.contents c.write_bytes.new.writer in
    let after = g.W.Write.contents c.write_bytes-2.new.writer in
    let result = c.write_bytes-2.result in
    let second = c.write_bytes-2.ensures in
    record {
      whole = whole_of_parts result before between after c.args.head.now c.args.body.now c.in_ok-write_bytes.ensures.whole second.whole;
      front = front_of_parts result before between after c.args.head.now c.args.body.now c.in_ok-write_bytes.ensures.whole second.front;
    }
