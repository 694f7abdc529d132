use Rattle.std.proofs.lemmas.Result.{on_ok_weaker}
use Rattle.drm_conform.proofs.TextChains.{behind}
use Rattle.drm_conform.proofs.words.put_rest.Goals as goal

pub returns : goal.returns
returns c =
    let two = behind c.args.text.now.items _ _ _ _ c.in_ok-put_counted.ensures c.in_ok-put_counted-2.ensures in
    let three = behind c.args.text.now.items _ _ _ _ two c.in_ok-put_counted-3.ensures in
    on_ok_weaker c.put.result (λ last. behind c.args.text.now.items _ _ _ _ three last) c.put.ensures
