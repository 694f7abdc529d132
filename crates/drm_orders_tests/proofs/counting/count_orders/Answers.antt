use Rattle.drm_orders_tests.proofs.counting.count_orders.Goals as goal

pub of-orders-requires : goal.of-orders-requires
of-orders-requires c = rw c.in_ok-scene.ensures c.in-Ok.ensures.fits
