mod LeastLaws
